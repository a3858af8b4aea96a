pub mod Checks  -- the hops that a graph has, and check's answer
pub mod Walks  -- what hops and silent hops lead to, and rings
pub mod Marking  -- the rounds, the marked set of a sense, marks, and mark's answer
pub mod Asking  -- the round question, finding, and the number of tests of the faster marking
pub mod Auditing  -- faults, the first of them, and the audit
pub mod Paired  -- hops that are alike, collected, differ in lines alone
pub mod Reducing  -- the map, the short shape and the short hops
pub mod Repeating  -- the last graph, its map and the number of reductions
