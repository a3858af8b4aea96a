pub mod PredecessorIndex  -- the table of places by where their hops end
