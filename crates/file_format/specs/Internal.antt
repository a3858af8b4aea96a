pub mod Rows  -- what private functions and proofs cite beside it
