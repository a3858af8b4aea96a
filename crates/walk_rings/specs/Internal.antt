pub mod Ring  -- a hop that leads back
