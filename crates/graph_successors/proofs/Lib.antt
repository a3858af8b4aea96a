pub mod Firsts  -- when a place is the first of a state, and what the table says
pub mod Rows  -- a state's places bracket its hops, and those of one label have that label's hops
