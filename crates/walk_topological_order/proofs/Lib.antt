pub mod Rows  -- the silent hops of a state, appended to the order
pub mod Ordering  -- the order with one state more, a pass that places none, and the whole order
