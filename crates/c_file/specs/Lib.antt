pub mod Numbers  -- the figures of read and of write
