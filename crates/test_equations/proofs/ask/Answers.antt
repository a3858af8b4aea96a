-- A table that says nothing is right, be it of cases or of bytes. Assumes nothing.
use Rattle.std.proofs.Common.{ℕ, ◌*◌, refl, arith}
use Rattle.std.proofs.lemmas.List.{length-replicate}
use Rattle.graph.specs.Answers.{most_hops}
use Rattle.mark_equations.specs.declared.Known.{Known}
use Rattle.mark_equations.specs.declared.Known.TheVariants.{Unknown}
use Rattle.mark_equations.specs.Internal.Known.{byte_for, known_of}
use Rattle.mark_equations.specs.Internal.Bytes.{byte_tells}
use Rattle.mark_equations.proofs.Table.{nothing_said, silent_right}
use Rattle.test_equations.proofs.ask.Goals as goal

pub x-by_cases-requires-clause-prepared : goal.x-by_cases-requires-clause-prepared
x-by_cases-requires-clause-prepared g c =
    record {
      label_in = c.requires.labels;
      capacity = omega (arith, length-replicate {A = Known} (5 * most_hops) Unknown, c.requires.few);
      right = nothing_said _ (5 * most_hops);
    }

pub x-by_bytes-requires-clause-prepared : goal.x-by_bytes-requires-clause-prepared
x-by_bytes-requires-clause-prepared g c =
    record {
      label_in = c.requires.labels;
      capacity = omega (arith, length-replicate {A = ℕ} (5 * most_hops) 255, c.requires.few);
      right = silent_right 0 byte_for known_of refl refl byte_tells _ (5 * most_hops);
    }
