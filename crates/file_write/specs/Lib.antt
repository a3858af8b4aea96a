pub mod Write  -- what writing a file answers, returns and writes
