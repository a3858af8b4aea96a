pub mod Table  -- answers worked by hand, and what the definitions give for the same calls
