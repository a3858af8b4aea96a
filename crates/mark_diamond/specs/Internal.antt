pub mod Skipped  -- where a walk over a state's hops has come to
