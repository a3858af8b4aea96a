pub mod Pair  -- what private functions and proofs cite beside it
