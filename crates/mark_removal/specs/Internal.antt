pub mod Removal  -- what marks keep while hops lose theirs
