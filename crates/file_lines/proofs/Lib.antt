pub mod Laws  -- its length, that reading and writing undo one another, when all are 0
pub mod Ranges  -- what `all` and `any` over a range say of each number of it
