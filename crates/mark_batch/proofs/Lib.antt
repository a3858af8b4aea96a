pub mod Trying  -- a batch: what its tables say of the sense, and what the filter by them leaves
