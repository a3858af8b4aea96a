pub mod Format  -- the fields of a file: where they lie and what they hold
pub mod Internal  -- what only private functions and proofs cite
