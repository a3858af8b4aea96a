pub mod Spread  -- what states get from one another along a set of hops
pub mod Step  -- one step, after which a state has the bits of another too, and a pass of them
