pub mod Representative  -- classes, representatives, the map, of any set of silent hops
pub mod Reducible  -- graphs that rows 1 to 5 let pass
pub mod Internal  -- what only private functions and proofs cite
