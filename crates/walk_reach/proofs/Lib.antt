pub mod Leads  -- the bounded test agrees with walks of any length
pub mod Frontier  -- a flag set, and how the frontier grows when a state is visited
pub mod Expanding  -- the visits of the ends of the chosen hops of one state
pub mod Search  -- the whole search, and what its flags say of a state
