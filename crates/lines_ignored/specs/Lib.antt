pub mod DifferInLines  -- hop lists that differ in lines alone
