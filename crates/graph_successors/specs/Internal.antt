pub mod SuccessorIndex  -- the table of first places, and what it needs of a list
pub mod Facts  -- that both are propositions
pub mod Row  -- a state's hops from a label on
