pub mod Found  -- the mark of a hop that was searched for
