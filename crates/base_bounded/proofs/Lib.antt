pub mod Bools  -- what a joined test says of its parts, and the other way round
pub mod Quantifiers  -- all, any, least, tally, tabulate and total by their places
pub mod Chains  -- descending chains of finite sets become stationary
pub mod Tallies  -- how many pass below a bound that grows: one more at each that passes
pub mod Slots  -- slots by key are apart, in order and all filled; one step of each loop
pub mod Least  -- the least that passes, alone and of pairs
