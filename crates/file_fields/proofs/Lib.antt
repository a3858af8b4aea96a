pub mod Laws  -- the fields where their bit stands, and where it does not
pub mod Bits  -- the bit of a field in byte 0
