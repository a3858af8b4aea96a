pub mod Fast  -- the entry's answer with the number of tests
