pub mod Numbers  -- the figures of hops of a state
