pub mod Bytes  -- the bytes of a list put at a place, one after the other
pub mod Encoded  -- the parts of a written file: how long they are, and put one after the other
