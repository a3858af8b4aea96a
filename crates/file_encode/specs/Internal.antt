pub mod Encode  -- what private functions and proofs cite beside it
