pub mod Table  -- the graphs worked by hand for the senses, and what the definitions give for them
