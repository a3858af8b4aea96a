pub mod Mark  -- the marks of a set, and the entry's answer and output
