pub mod Rows  -- the rows 11 to 14 of a file, in the order in which they speak
pub mod Internal  -- what only private functions and proofs cite
