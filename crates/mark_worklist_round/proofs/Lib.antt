pub mod Parts  -- listing, testing, taking, and what they leave of the marks
