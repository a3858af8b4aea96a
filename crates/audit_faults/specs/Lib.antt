pub mod Faults  -- the three sums of the fault count
pub mod First  -- the first fault, and what that means
pub mod Internal  -- what only private functions and proofs cite
