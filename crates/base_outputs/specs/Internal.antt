pub mod Output  -- what private functions and proofs cite beside it
