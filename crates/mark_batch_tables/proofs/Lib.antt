pub mod Keys  -- a table of keys, one bit more at a time
pub mod Answered  -- who answers by staying and by the hops so far, one hop more, and by all
