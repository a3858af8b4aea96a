-- The entry's marking is `mark`'s in sense 1: row 19 lets it pass, and the marked set of sense 1 is
-- document 01's. Assumes nothing.
use Prim.Native.Nat.{ℕ}
use mathlib.Core.Path.{◌≡◌, refl, sym, ap, ◌∙◌}
use mathlib.Core.List.{List}
use lib.ListN.{length}
use Rattle.base_outputs.specs.Output.{on_front}
use Rattle.graph.specs.Hops.{count}
use Rattle.graph.specs.Answers.{accepted, and_then, capacity_answer}
use Rattle.graph.specs.declared.Shape.{Shape}
use Rattle.graph.specs.declared.Answer.{Answer}
use Rattle.graph_check.specs.Check.{check_of}
use Rattle.walk_silent.specs.Silent.{ring_answer}
use Rattle.base_fixpoint.specs.Pairs.{Pairs}
use Rattle.mark_confluence.specs.Rounds.{marked}
use Rattle.mark_confluence.specs.Marks.{marks_of}
use Rattle.mark_senses.specs.Senses.{is_sense, sense_answer}
use Rattle.mark_senses.proofs.Marked.{marked_by_1}
use Rattle.mark_senses.proofs.Row.{sense_passes}
use Rattle.mark_entry.specs.Mark.{mark_answer, mark_output}
use Rattle.mark_entry.proofs.Entry.{mark_later, mark_admitted, output_marked}

-- "the program keeps 1": row 19 does not speak
first_passes : sense_answer 1 ≡ accepted
unfolding is_sense
first_passes = sense_passes 1 refl

module _ (sh : Shape) (hs : List ℕ) where
  module _ (out : List ℕ) where
    pub first_later : {c : Answer} → c ≡ check_of sh hs → c.number ≡ 0 → {d : Answer} → d ≡ and_then (ring_answer sh hs) (capacity_answer (count hs) (length out)) →
        d ≡ mark_answer sh hs 1 out
    first_later e z f = mark_later sh hs 1 out e z (sym first_passes) refl f

    pub first_marked : (mark_answer sh hs 1 out).number ≡ 0 → {ms : List ℕ} → ms ≡ on_front (marks_of hs (marked hs)) out → ms ≡ mark_output sh hs 1 out
    first_marked y m =
        output_marked sh hs 1 out y (m ∙ ap (λ (u : Pairs). on_front (marks_of hs u) out) (sym (marked_by_1 sh hs (mark_admitted sh hs 1 out y).range)))
