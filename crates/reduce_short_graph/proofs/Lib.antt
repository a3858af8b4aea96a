pub mod Collecting  -- one step of the loop that lists places, and the short hops by them
pub mod Images  -- the short hops ascend, and are exactly the images of the representatives' hops
pub mod Lines  -- the line of a short hop is the smallest that is not 0 of the hops it comes from
pub mod Reduces  -- the short graph is admitted, and the map to it keeps branching bisimilarity
pub mod Again  -- the short graph can be reduced again, and has fewer states if a hop was in the set
pub mod Tabled  -- the map and the short hops by the tables are those of the definitions
