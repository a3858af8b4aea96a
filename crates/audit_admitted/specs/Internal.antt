pub mod Outcome  -- the answer of what a check returned
