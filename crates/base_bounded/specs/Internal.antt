pub mod Slots  -- how many have a key, where they begin, and where each number stands
pub mod Quantifiers  -- what private functions and proofs cite beside it
