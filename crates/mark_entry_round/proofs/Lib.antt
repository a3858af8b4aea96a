pub mod Rows  -- the ways out of the entry, and what is known where no row speaks
