pub mod BetweenRounds  -- what holds between two rounds
