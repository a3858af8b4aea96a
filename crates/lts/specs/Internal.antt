pub mod Reduction  -- reduction by confluence, and maps that keep branching bisimilarity
pub mod Renumbered  -- what a reduction leaves, numbered anew
pub mod Branching  -- branching bisimulations over any relations
pub mod Closes  -- what private functions and proofs cite beside it
pub mod Sense  -- what private functions and proofs cite beside it
