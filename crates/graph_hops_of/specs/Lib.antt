pub mod HopsOf  -- which part of a table is returned for a side and a state
pub mod Internal  -- what only private functions and proofs cite
