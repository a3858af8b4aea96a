pub mod Decimal  -- a decimal shows its number, with no zero in front
pub mod Puts  -- texts put one behind the other are the joined text
