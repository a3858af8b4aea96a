pub mod Last  -- the last graph as the code returns it
