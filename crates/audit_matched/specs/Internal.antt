pub mod Stamps  -- which hop stamps which, and what the stamping requires
