pub mod Closing  -- what the tests of closing say, and that they grow with the set
pub mod Rounds  -- the rounds of marking are those of a monotone condition
pub mod Marked  -- the marked set is the greatest confluent set and the greatest solution
pub mod MarkSet  -- the set that marks are, by places
pub mod Marks  -- the marks of a set are 1 or 0, 1 at silent hops only, and hold that set
