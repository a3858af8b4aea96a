pub mod Ranks  -- ranked states, none of which is on a ring
pub mod Ranking  -- how many are gained
