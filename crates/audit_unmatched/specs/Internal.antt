pub mod States  -- what is unstamped for a state, and what the counting requires
pub mod Facts  -- that the flags of a set of hops are a proposition
