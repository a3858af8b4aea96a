pub mod Records  -- a flat list that holds records
