pub mod Iterate  -- reducing again and again until no hop is marked
