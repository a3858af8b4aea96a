pub mod Question  -- the entry's rows and its answer
