pub mod Senses  -- the condition with the sense as an argument, the marked set of a sense, row 19
pub mod Internal  -- what only private functions and proofs cite
