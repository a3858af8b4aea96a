pub mod Front  -- lists written over the front or a part of an older one
