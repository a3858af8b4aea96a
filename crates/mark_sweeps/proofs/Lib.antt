pub mod Sweeping  -- one test of strong confluence
