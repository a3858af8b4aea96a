pub mod LineField  -- what private functions and proofs cite beside it
