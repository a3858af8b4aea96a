pub mod Preserved  -- the initial states are joined or not, and a hop is preserved or not
pub mod Found  -- a search over places
pub mod Bound  -- the fault count is at most 4,198,401
pub mod Naming  -- what the first fault means
