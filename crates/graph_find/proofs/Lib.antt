pub mod Saturated  -- a hop sought by numbers of 16 bits stands where the one asked for does
pub mod Places  -- the place that is searched for, as a count
pub mod Ways  -- the ways out of the entry
pub mod Meaning  -- what is found means what it should
