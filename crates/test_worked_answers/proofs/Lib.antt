pub mod Given  -- the definitions give every answer of the table
