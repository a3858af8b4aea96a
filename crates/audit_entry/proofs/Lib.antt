pub mod Meaning  -- a fault count of 0 is a branching bisimulation that joins the initial states
pub mod Relations  -- document 01's branching bisimulations are the theory's
pub mod Answering  -- the ways out of the entry
