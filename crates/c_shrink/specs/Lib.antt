pub mod Numbers  -- the figures of shrink
