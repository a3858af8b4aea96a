pub mod Read  -- what reading a file answers, returns and writes
