pub mod Lists  -- hop lists by their places, and hops put one after the other
pub mod Field  -- the field: its lengths, and that reading and writing undo one another
