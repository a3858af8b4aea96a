pub mod Quantifiers  -- all, any, least, tally, tabulate and total below a bound
pub mod Internal  -- what only private functions and proofs cite
