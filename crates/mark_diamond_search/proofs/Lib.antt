pub mod Ends  -- the ways out of the walk over s3's silent hops
