pub mod Ordered  -- the order of names
