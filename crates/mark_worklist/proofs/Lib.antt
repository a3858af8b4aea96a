pub mod Tests  -- a hop that is not tested survives the round; the number of tests
