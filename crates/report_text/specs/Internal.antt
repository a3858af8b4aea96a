pub mod Text  -- what private functions and proofs cite beside it
