pub mod Output  -- what a lent output holds afterwards
pub mod Concat  -- lists one behind the other
pub mod Internal  -- what only private functions and proofs cite
