pub mod Ranks  -- ranked states are on no ring, and if all are ranked there is none
pub mod Flags  -- tables of flags of any kind: a flag read, a flag written
