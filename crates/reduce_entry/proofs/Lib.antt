pub mod Marked  -- the marked set of any sense is terminating and weakly confluent
pub mod Represented  -- each class has one representative, and the walk comes to it
pub mod Reduced  -- the short graph is admitted, and the map to it keeps branching bisimilarity
pub mod Answering  -- the answer row by row, and what is returned and written
