pub mod Row  -- row 19, and which sense a number is
pub mod Tests  -- what the tests say, and the other way round; they grow with the set
pub mod Marked  -- the marked set of a sense is of the sense and holds every set of it
