pub mod Composed  -- what private functions and proofs cite beside it
