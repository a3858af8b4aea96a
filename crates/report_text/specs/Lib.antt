pub mod Text  -- printed text as bytes, and what it is to put it into a buffer
pub mod Internal  -- what only private functions and proofs cite
