-- Where the sense has no walk before the answering hop, the table stays as it is. Assumes nothing.
use Rattle.std.proofs.Common.{◌≡◌, rules}
use Rattle.lts.specs.Closes.{nowhere}
use Rattle.mark_senses.specs.Senses.{sense_of}
use Rattle.mark_senses.specs.Internal.Numbers.{condition_of}
use Rattle.mark_batch.proofs.Trying.{back_nowhere}
use Rattle.mark_batch.proofs.before_table.Goals as goal

pub returns-in-R1 : goal.returns-in-R1
unfolding sense_of
returns-in-R1 c =
    let none : (condition_of c.args.sense).before ≡ nowhere = search rules in
    rw none (back_nowhere _ _)
