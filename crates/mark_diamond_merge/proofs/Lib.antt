pub mod Rows  -- the ways out of the walk over s2's hops labelled a
pub mod Along  -- the place along s3's row that goes with it
