pub mod LineField  -- the list of lines: its length, its lines, its bytes
pub mod Internal  -- what only private functions and proofs cite
