pub mod Admitted  -- the answer is 0 exactly where all that was lent is admitted
