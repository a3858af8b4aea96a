pub mod Refusal  -- what it returns with a refusal, and rows 19, 5 and 6
pub mod Reduce  -- what private functions and proofs cite beside it
