pub mod Checked  -- accepted exactly when admitted, and which row speaks where
pub mod Ascending  -- row 4 by sums
pub mod Placed  -- a place below a bound, where there is one
