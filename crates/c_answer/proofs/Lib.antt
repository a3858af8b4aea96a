pub mod Answers  -- what is returned, with an answer slice too short or long enough
pub mod AnswerAfter  -- what the lent slices hold afterwards
