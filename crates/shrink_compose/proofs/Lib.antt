pub mod ComposedMaps  -- what stands in maps put one after the other
pub mod Composed  -- maps without faults compose
