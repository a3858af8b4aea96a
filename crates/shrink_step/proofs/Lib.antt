pub mod Marking  -- marks of which one stands are those of a set that has a hop
pub mod Stepping  -- what one iteration makes of the stage that the code holds
