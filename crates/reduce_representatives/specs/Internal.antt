pub mod Tables  -- marks and the tables that the code keeps
pub mod Facts  -- that a table of next states leads to its states is a proposition
pub mod Representative  -- what private functions and proofs cite beside it
