pub mod Steps  -- one step more: what a table has after it, along hops that lead on in order
pub mod Along  -- the steps along the order, and that in the end they are the marked hops
pub mod Order  -- the order that a struct holds, as its parts
