pub mod Batch  -- what is known of marks once hops have been tried
pub mod Sweeping  -- what marks keep, and what tests leave of them, in one sense and graph
