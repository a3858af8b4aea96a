pub mod Stamping  -- the stamps stand exactly where hops of graph 1 stamp
pub mod Rows  -- going over the hops of one state only, by the table of first places
