pub mod Correct  -- in any sense, what reducing makes passes the audit: Theorem B
pub mod Fronts  -- the fronts of the outputs are what the audit takes, whatever they held before
