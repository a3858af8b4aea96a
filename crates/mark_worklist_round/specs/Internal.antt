pub mod Round  -- what listing, testing and taking ask and leave
