pub mod Admitted  -- admitted maps, rows 7 and 8, and the audit's answer
pub mod Internal  -- what only private functions and proofs cite
