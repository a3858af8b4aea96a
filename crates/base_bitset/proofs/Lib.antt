pub mod Laws  -- union and intersection, one bit alone, equal words, a table after a write
