pub mod Back  -- a state is on a ring when a state that it leads to has a silent hop to it
