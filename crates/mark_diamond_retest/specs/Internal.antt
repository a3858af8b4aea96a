pub mod Retest  -- what need not be tried again
