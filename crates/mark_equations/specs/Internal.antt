pub mod Known  -- what the table of answers may hold, and what the equations ask
pub mod Bytes  -- what the bytes of a table say
