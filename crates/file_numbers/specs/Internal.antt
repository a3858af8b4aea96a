pub mod Numbers  -- what private functions and proofs cite beside it
