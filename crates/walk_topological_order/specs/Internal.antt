pub mod TopologicalOrder  -- the silent hops in reverse topological order
pub mod Ordering  -- the order while it is made: placed states, and what a try and a pass do
