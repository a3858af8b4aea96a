pub mod Numbers  -- the numbers that an entry writes for its caller, and what is returned
