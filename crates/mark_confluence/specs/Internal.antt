pub mod MarkSet  -- the set that marks are, and the marks of a set
pub mod Rounds  -- what private functions and proofs cite beside it
