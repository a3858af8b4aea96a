pub mod Queue  -- the worklist, and what is pushed on it for a hop that fell
pub mod Facts  -- that the facts of a round's graph are propositions
