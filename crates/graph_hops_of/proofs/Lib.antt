pub mod Chosen  -- what is known of the table of the chosen side
pub mod Spans  -- where the part stands by start and length, and that it is the part returned
