pub mod AuditOfReduce  -- the audit of what an accepted reduce left
