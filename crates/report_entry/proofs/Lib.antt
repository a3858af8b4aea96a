pub mod Lengths  -- how long texts are at most
pub mod Printed  -- what is printed, in the words of the entries that are called
