pub mod Ascending  -- the images of hops once and in ascending order, and what ordering them needs
pub mod Facts  -- that what is known of mapped hops is a proposition
pub mod Mapped  -- the images of mapped hops
pub mod Near  -- what insertion near the end comes to
pub mod Sorting  -- the order in which places are gone through
