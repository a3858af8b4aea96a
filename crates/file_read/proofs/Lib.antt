pub mod Entry  -- the ways out of reading, and what acceptance says
