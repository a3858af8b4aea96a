-- The answer of `reduce` row by row, what follows from acceptance, and what is returned and written
-- in either case. Assumes nothing.
use Prim.Native.Nat.{ℕ, ◌≤◌}
use mathlib.Core.Path.{◌≡◌, sym, ap, ◌∙◌}
use mathlib.Core.Bool.{false}
use mathlib.Core.List.{List}
use borrow.Author.Tests.{ne_eqb, le-leb}
use lib.ListN.{length}
use lib.Dec.{eqb}
use Rattle.base_outputs.specs.Output.{on_front, written}
use Rattle.graph.specs.Answers.{accepted, and_then, capacity_answer}
use Rattle.graph_check.specs.Check.{check_of}
use Rattle.graph.specs.Hops.{flat}
use Rattle.graph.specs.declared.Shape.{Shape}
use Rattle.graph.specs.declared.Answer.{Answer}
use Rattle.graph_check.proofs.Checked.{check_admitted}
use Rattle.walk_silent.specs.Silent.{ring_answer}
use Rattle.graph.proofs.Accepts.{then_first, then_next, both_accept, capacity_accepts}
use Rattle.mark_senses.specs.Senses.{sense_answer}
use Rattle.reduce_representatives.specs.Reducible.{Reducible}
use Rattle.reduce_entry.specs.Reduce.{reduce_answer, reduction, reduce_of, reduced_map, reduced_hops, map_output, short_output}
use Rattle.reduce_entry.specs.Internal.Refusal.{refused_reduction, later_answer}

-- row 6 of both outputs
abbrev capacity : Shape → List ℕ → ℕ → ℕ → Answer
capacity sh hs m n = and_then (capacity_answer sh.states m) (capacity_answer (length hs) n)

-- rows 5 and 6
abbrev ringed : Shape → List ℕ → ℕ → ℕ → Answer
ringed sh hs m n = and_then (ring_answer sh hs) (capacity sh hs m n)

-- rows 19, 5 and 6 of an admitted graph: the ways out of the code, in order
module _ (sh : Shape) (hs : List ℕ) (k m n : ℕ) {c : Answer} (g : c ≡ sense_answer k) where
  pub later_sensed : (c.number ≡ 0 → ⊥) → c ≡ later_answer sh hs k m n
  later_sensed x = g ∙ sym (then_first (sense_answer k) (ringed sh hs m n) (rw g at x))

  module _ (w : c.number ≡ 0) {d : Answer} (f : d ≡ ring_answer sh hs) where
    next : ringed sh hs m n ≡ later_answer sh hs k m n
    next = sym (then_next (sense_answer k) (ringed sh hs m n) (rw g at w))

    pub later_ringed : (d.number ≡ 0 → ⊥) → d ≡ later_answer sh hs k m n
    later_ringed x = f ∙ sym (then_first (ring_answer sh hs) (capacity sh hs m n) (rw f at x)) ∙ next

module _ (sh : Shape) (hs : List ℕ) (k m n : ℕ) where
  -- the ways out of the entry: rows 1 to 4, and the later ones
  pub answer_checked : {c : Answer} → c ≡ check_of sh hs → (c.number ≡ 0 → ⊥) → c ≡ reduce_answer sh hs k m n
  unfolding reduce_answer
  answer_checked e x = e ∙ sym (then_first (check_of sh hs) _ (rw e at x))

  pub answer_later : {c : Answer} → c ≡ check_of sh hs → c.number ≡ 0 → {d : Answer} → d ≡ later_answer sh hs k m n → d ≡ reduce_answer sh hs k m n
  unfolding reduce_answer
  answer_later e z f = f ∙ sym (then_next (check_of sh hs) (later_answer sh hs k m n) (rw e at z))

  -- what follows from acceptance
  module _ (z : (reduce_answer sh hs k m n).number ≡ 0) where
    checked : ((check_of sh hs).number ≡ 0) × ((later_answer sh hs k m n).number ≡ 0)
    unfolding reduce_answer
    checked = both_accept (check_of sh hs) (later_answer sh hs k m n) z

    sensed : ((sense_answer k).number ≡ 0) × ((ringed sh hs m n).number ≡ 0)
    sensed = both_accept (sense_answer k) (ringed sh hs m n) checked.1

    freed : ((ring_answer sh hs).number ≡ 0) × ((capacity sh hs m n).number ≡ 0)
    freed = both_accept (ring_answer sh hs) (capacity sh hs m n) sensed.1

    roomed : ((capacity_answer sh.states m).number ≡ 0) × ((capacity_answer (length hs) n).number ≡ 0)
    roomed = both_accept (capacity_answer sh.states m) (capacity_answer (length hs) n) freed.1

    pub reduce_reducible : Reducible sh hs
    reduce_reducible = record { admitted = check_admitted sh hs checked.0; free = freed.0 }

    pub reduce_map_capacity : sh.states ≤ m
    reduce_map_capacity = (capacity_accepts sh.states m roomed.0).1

    pub reduce_short_capacity : length hs ≤ n
    reduce_short_capacity = (capacity_accepts (length hs) n roomed.1).1

    pub reduce_accepted : reduce_answer sh hs k m n ≡ accepted
    unfolding reduce_answer
    reduce_accepted =
        then_next (check_of sh hs) (later_answer sh hs k m n) checked.0 ∙ then_next (sense_answer k) (ringed sh hs m n) sensed.0 ∙
        then_next (ring_answer sh hs) (capacity sh hs m n) freed.0 ∙
        rw (le-leb sh.states m reduce_map_capacity, le-leb (length hs) n reduce_short_capacity)

-- what is returned and written, a being the answer
module _ (sh : Shape) (hs : List ℕ) (k : ℕ) (map short : List ℕ) {a : Answer} (e : a ≡ reduce_answer sh hs k (length map) (length short)) where
  module _ (n : a.number ≡ 0 → ⊥) where
    refuses : eqb (reduce_answer sh hs k (length map) (length short)).number 0 ≡ false
    refuses = ne_eqb _ 0 (rw e at n)

    pub refused_returns : refused_reduction a ≡ reduce_of sh hs k (length map) (length short)
    unfolding reduce_of
    refused_returns = rw refuses (ap refused_reduction e)

    pub refused_map : map ≡ map_output sh hs k map short
    unfolding map_output
    refused_map = rw refuses

    pub refused_short : short ≡ short_output sh hs k map short
    unfolding short_output
    refused_short = rw refuses

  module _ (z : a.number ≡ 0) where
    pub accepts : (reduce_answer sh hs k (length map) (length short)).number ≡ 0
    accepts = rw e at z

    pub accepted_returns : reduction sh hs k accepted ≡ reduce_of sh hs k (length map) (length short)
    unfolding reduce_of
    accepted_returns = ap (reduction sh hs k) (sym (reduce_accepted sh hs k (length map) (length short) accepts))

    pub accepted_map : {x : List ℕ} → x ≡ on_front (reduced_map sh hs k) map → x ≡ map_output sh hs k map short
    unfolding map_output
    accepted_map f = f ∙ ap (λ (x : Answer). written x.number (reduced_map sh hs k) map) (sym (reduce_accepted sh hs k (length map) (length short) accepts))

    pub accepted_short : {x : List ℕ} → x ≡ on_front (flat (reduced_hops sh hs k)) short → x ≡ short_output sh hs k map short
    unfolding short_output
    accepted_short f =
        f ∙ ap (λ (x : Answer). written x.number (flat (reduced_hops sh hs k)) short) (sym (reduce_accepted sh hs k (length map) (length short) accepts))
