pub mod Filtering  -- when a hop fails; the marks filtered so far, one hop more, and all
