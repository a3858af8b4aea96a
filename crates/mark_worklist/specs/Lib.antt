pub mod Tests  -- the hops that a round tests, and the number of tests
