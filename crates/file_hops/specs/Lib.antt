pub mod Field  -- the hop field: its length, its hops, its bytes
pub mod Internal  -- what only private functions and proofs cite
