pub mod Settled  -- marks that can be checked by one round are those of the marked set
pub mod Given  -- the definitions give every figure of the table
