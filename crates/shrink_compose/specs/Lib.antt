pub mod Composed  -- one map after another, and the map of own numbers
pub mod Internal  -- what only private functions and proofs cite
