pub mod Tables  -- the short hops by the tables that the code keeps
