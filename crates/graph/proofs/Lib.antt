pub mod Places  -- what a place of a hop list holds, and when the graph has a hop
pub mod Ordered  -- the order is strict and total, up to hops that are alike
pub mod Sums  -- a hop's sum, and that sums have the order of their hops
pub mod Lookup  -- what the search answers, and the places of a state's hops
pub mod Fronts  -- hops written at the front of a flat list, and read back
pub mod Accepts  -- answers one after the other
