pub mod Find  -- what private functions and proofs cite beside it
