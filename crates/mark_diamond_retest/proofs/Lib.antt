pub mod Rows  -- a state's hops from a label on, by binary search, and what need not be tried
