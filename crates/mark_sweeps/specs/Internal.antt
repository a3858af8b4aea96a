pub mod Sweep  -- what a test and a sweep know of the marks that they leave
