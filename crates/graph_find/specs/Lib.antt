pub mod Find  -- whether a graph has a hop and where it stands or would stand, and what that means
pub mod Internal  -- what only private functions and proofs cite
