pub mod Hops  -- where silent hops stand, and that they are a chosen set
pub mod Leads  -- the bounded test agrees with silent walks of any length
pub mod Rings  -- what the answer of row 5 says; without rings a rank falls along every silent hop
