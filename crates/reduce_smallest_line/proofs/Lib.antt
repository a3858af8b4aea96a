pub mod Lines  -- what the smallest line means, and that nothing else is meant
