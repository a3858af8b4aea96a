pub mod NormalForm  -- normal states, and that walks terminate at the representative
pub mod Numbers  -- new numbers rise with old ones, and no two representatives share one
pub mod Nexts  -- the table of next states holds where first hops of the set lead
pub mod Compressed  -- path compression: the table of next states leads where it led
pub mod Mapped  -- a representative is its own; the map is below their number
pub mod Marked  -- marks of a set in a list, and the set that marks are
pub mod Tabled  -- what the tables hold, in the words of the definitions
