pub mod BatchTables  -- tables for a batch of hops tried, and who answers them
