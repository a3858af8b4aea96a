pub mod Numbers  -- the figures of the round question and of the faster marking
