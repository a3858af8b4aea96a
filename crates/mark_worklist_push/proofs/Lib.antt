pub mod Pushing  -- what is pushed: nothing, one place, one set after another
pub mod Walks  -- the walks over the hops into and out of a state, and the sets that they push
