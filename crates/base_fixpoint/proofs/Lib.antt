pub mod Approximants  -- rounds become stationary, and leave the greatest set that F keeps
