pub mod Rows  -- one state's hops walked, two states' side by side, and the ways out of X and Y
