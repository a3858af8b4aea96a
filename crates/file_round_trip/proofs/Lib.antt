pub mod Again  -- a file read and written again has the same bytes
pub mod Back  -- a graph written and read again is the same, and its file at most 66,536 bytes long
pub mod Both  -- the ways out of the two round trips
pub mod Longest  -- a legal file of 66,536 bytes
pub mod Example  -- P1 as a file
