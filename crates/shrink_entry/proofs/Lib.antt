pub mod Standing  -- the invariant of the loop: the stage that the code holds
pub mod Accepting  -- what is returned and written with acceptance
pub mod Answering  -- what is returned and written in either case, by the answer
pub mod Accepted  -- the laws by which an accepted graph goes on, for the search
pub mod Correct  -- what an accepted `shrink` left passes the audit, by fewer reductions than states
