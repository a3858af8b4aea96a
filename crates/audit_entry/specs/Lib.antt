pub mod Bisimulation  -- Definition 2.4, and the map taken as a relation
pub mod Audit  -- what the entry returns
