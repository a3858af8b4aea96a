pub mod Filtered  -- when a marked hop is answered, and which marks the filter leaves
