pub mod Rounds  -- confluent sets, the equations X, Y and Z, the rounds and the marked set
pub mod Marks  -- the marks of a set of silent hops
pub mod Internal  -- what only private functions and proofs cite
