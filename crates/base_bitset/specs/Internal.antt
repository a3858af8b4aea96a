pub mod Bits  -- the bits of a word, and tables of words
