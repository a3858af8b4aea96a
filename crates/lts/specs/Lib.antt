pub mod Star  -- zero or more steps, and steps taken either way
pub mod Sense  -- the senses of confluence
pub mod Closes  -- the senses as one condition
pub mod Internal  -- what only private functions and proofs cite
