-- What `shrink` returns and writes in either case, a being its answer, which is that of `reduce`.
-- Assumes nothing.
use Prim.Native.Nat.{ℕ}
use mathlib.Core.Path.{◌≡◌, sym, ap, ◌∙◌}
use mathlib.Core.Bool.{false}
use mathlib.Core.List.{List}
use borrow.Author.Tests.{ne_eqb}
use lib.ListN.{length}
use lib.Dec.{eqb}
use Rattle.base_outputs.specs.Output.{on_front, written}
use Rattle.graph.specs.Answers.{accepted}
use Rattle.graph.specs.declared.Shape.{Shape}
use Rattle.graph.specs.declared.Answer.{Answer}
use Rattle.reduce_entry.specs.Reduce.{reduce_answer}
use Rattle.reduce_entry.proofs.Answering.{reduce_accepted}
use Rattle.shrink_iterate.specs.Iterate.{last_stage}
use Rattle.shrink_entry.specs.Shrink.{refused_shrinking, shrinking, shrink_of, shrink_map_output, shrink_hops_output}

module _ (sh : Shape) (hs : List ℕ) (k : ℕ) (map short : List ℕ) {a : Answer} (e : a ≡ reduce_answer sh hs k (length map) (length short)) where
  module _ (n : a.number ≡ 0 → ⊥) where
    refuses : eqb (reduce_answer sh hs k (length map) (length short)).number 0 ≡ false
    refuses = ne_eqb _ 0 (rw e at n)

    pub refused_returns : refused_shrinking a ≡ shrink_of sh hs k (length map) (length short)
    unfolding shrink_of
    refused_returns = rw refuses (ap refused_shrinking e)

    pub refused_map : map ≡ shrink_map_output sh hs k map short
    unfolding shrink_map_output
    refused_map = rw refuses

    pub refused_short : short ≡ shrink_hops_output sh hs k map short
    unfolding shrink_hops_output
    refused_short = rw refuses

  module _ (z : a.number ≡ 0) where
    pub accepts : (reduce_answer sh hs k (length map) (length short)).number ≡ 0
    accepts = rw e at z

    is : accepted ≡ reduce_answer sh hs k (length map) (length short)
    is = sym (reduce_accepted sh hs k (length map) (length short) accepts)

    pub accepted_returns : shrinking sh hs k accepted ≡ shrink_of sh hs k (length map) (length short)
    unfolding shrink_of
    accepted_returns = ap (shrinking sh hs k) is

    pub accepted_map : {x : List ℕ} → x ≡ on_front (last_stage k sh hs).map map → x ≡ shrink_map_output sh hs k map short
    unfolding shrink_map_output
    accepted_map f = f ∙ ap (λ (x : Answer). written x.number (last_stage k sh hs).map map) is

    pub accepted_short : {x : List ℕ} → x ≡ on_front (last_stage k sh hs).hops short → x ≡ shrink_hops_output sh hs k map short
    unfolding shrink_hops_output
    accepted_short f = f ∙ ap (λ (x : Answer). written x.number (last_stage k sh hs).hops short) is
