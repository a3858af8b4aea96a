pub mod Sought  -- where a hop goes into the first hops of a list, by the search
pub mod Gap  -- hops moved up open a gap, and what is put there is inserted
pub mod Putting  -- hops that come in order are inserted behind the last
pub mod Sorting  -- three stable passes put the places of the images in order
