pub mod Field  -- what private functions and proofs cite beside it
pub mod Facts  -- that what is known of a hop field is a proposition
