pub mod Numbers  -- the number of a sense of the code, its condition, and what a number gives
