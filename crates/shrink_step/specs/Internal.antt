pub mod Progress  -- the stage that the code holds
