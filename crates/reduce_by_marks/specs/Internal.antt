pub mod ByMarks  -- what reducing along marks returns and leaves
