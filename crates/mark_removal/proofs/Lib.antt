pub mod Fixpoint  -- hops that do not close lose their marks until none does, for any condition
