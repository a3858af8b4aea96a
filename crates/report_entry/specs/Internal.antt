pub mod Printed  -- what was printed, or was not since it is a refusal
