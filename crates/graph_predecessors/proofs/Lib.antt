pub mod PredecessorIndex  -- a sort by the targets makes the table; what stands in it
