pub mod Numbers  -- the figures of find
