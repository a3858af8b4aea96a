pub mod Unmatched  -- unstamped hops are unmatched ones, and the sum by states is the third sum
pub mod Own  -- the hops of r are all that count
pub mod Keeping  -- the smallest place is kept, by states
