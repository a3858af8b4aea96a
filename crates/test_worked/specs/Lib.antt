pub mod Table  -- the graphs worked by hand, and what the definitions give for them
