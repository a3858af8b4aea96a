-- An admitted graph has labels in their range, and an empty table is right. Assumes nothing.
use Rattle.std.proofs.Common.{ℕ, ◌+◌, ◌*◌, arith}
use Rattle.std.proofs.lemmas.List.{length-replicate}
use Rattle.graph.specs.Answers.{most_hops}
use Rattle.mark_equations.proofs.Table.{no_byte_said}
use Rattle.mark_entry_round.specs.Question.{most_rounds}
use Rattle.mark_entry_round.proofs.question.survives_rounds.Goals as goal

pub x-requires-clause-prepared : goal.x-requires-clause-prepared
x-requires-clause-prepared c =
    record {
      label_in = λ i l. omega (arith, c.requires.admitted.range.label_in i l, c.requires.admitted.labels_most);
      capacity = omega (arith, length-replicate {A = ℕ} ((most_rounds + 1) * most_hops) 0);
      right = no_byte_said _ ((most_rounds + 1) * most_hops);
    }
