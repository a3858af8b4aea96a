pub mod Table  -- what the table of answers says is right, and stays so
pub mod Equations  -- the ways out of X, Y and Z, in the words of their definitions
