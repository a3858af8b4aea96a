pub mod Rounds  -- from one round to the next, the first round, and the end
