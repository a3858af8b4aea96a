pub mod Stages  -- what every stage keeps: it can be reduced, and its map has no fault
pub mod Last  -- the last stage: the end, no fault, fewer reductions than states
pub mod Lines  -- the line of a last hop: the smallest, 0 aside, of those that it comes from
pub mod Once  -- under R8 at most one reduction marks something
