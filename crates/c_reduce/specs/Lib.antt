pub mod Numbers  -- the figures of reduce
