pub mod Answers  -- the ways out, in the order of the checks
pub mod Sound  -- what it means that the format is accepted
pub mod Cut  -- every proper front of an accepted file ends early
