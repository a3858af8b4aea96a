pub mod Numbers  -- the figures of the audit
