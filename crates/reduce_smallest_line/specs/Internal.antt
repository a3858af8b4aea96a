pub mod Lines  -- what private functions and proofs cite beside it
