pub mod First  -- the entry's marking is that of `mark` in sense 1
pub mod Counting  -- what the entry returns, with a refusal and without
pub mod SameMarks  -- the two markings leave the same marks
