pub mod Field  -- the bits of byte 0, by the field that each stands for
