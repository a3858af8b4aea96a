pub mod Frontier  -- the parts of the search: visited states, and the queue
pub mod Reach  -- what private functions and proofs cite beside it
