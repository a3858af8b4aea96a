pub mod Hops  -- the hop list, seen by places
pub mod Map  -- a map at a state
pub mod Order  -- which hop comes first, and what ascending means
pub mod Search  -- where a hop stands or would stand
pub mod Answers  -- the limits, and answers
pub mod Internal  -- what only private functions and proofs cite
