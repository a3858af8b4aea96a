pub mod Side  -- the number of a side
