pub mod TwoBytes  -- a number read is the number that was written, and the other way round
pub mod Parts  -- parts of one width: put one by one, found at their places
