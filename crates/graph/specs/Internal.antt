pub mod Sum  -- a hop's sum, by which hops are compared
pub mod Hops  -- what private functions and proofs cite beside it
pub mod Key  -- the number of a hop by which it is sorted or put into a table
pub mod Search  -- what private functions and proofs cite beside it
