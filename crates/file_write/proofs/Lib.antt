pub mod Given  -- the ways out of writing, and what acceptance says
