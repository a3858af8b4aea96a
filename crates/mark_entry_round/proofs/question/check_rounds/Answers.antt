-- Assumes nothing.
use Rattle.mark_entry_round.proofs.Rows.{rounds_few, rounds_many}
use Rattle.mark_entry_round.proofs.question.check_rounds.Goals as goal

pub returns-then-rounds-gt-MOST_ROUNDS : goal.returns-then-rounds-gt-MOST_ROUNDS
returns-then-rounds-gt-MOST_ROUNDS c = rounds_many _ c.if-rounds-gt-MOST_ROUNDS.true

pub returns : goal.returns
returns c = rounds_few _ c.if-rounds-gt-MOST_ROUNDS.false
