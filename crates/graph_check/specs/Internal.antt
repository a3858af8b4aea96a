pub mod Facts  -- that being admitted is a proposition
pub mod Places  -- a place, where there is one
