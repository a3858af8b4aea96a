pub mod Table  -- the graphs worked by hand for source lines, and what the definitions give for them
