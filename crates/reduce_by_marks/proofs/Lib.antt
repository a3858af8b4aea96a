pub mod Along  -- marks that marking left can be reduced along, and the map by place
pub mod Tabled  -- what the tables give, in the words of the definitions
