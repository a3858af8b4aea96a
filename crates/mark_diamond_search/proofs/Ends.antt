-- A trial answered from the side of s3: s3 itself, or the end of one of its marked hops, is where a
-- hop of s2 leads. Assumes nothing.
use Prim.Native.Nat.{ℕ, ◌+◌, ◌<◌, ◌≤◌}
use mathlib.Core.Path.{◌≡◌, refl, sym, ◌∙◌}
use mathlib.Core.Bool.{Bool, true, false}
use mathlib.Core.List.{List}
use mathlib.Core.Logic.{◌⊎◌, inl, inr, ⊎_elim}
use native.Mathlib.Omega.{arith}
use Rattle.graph.specs.Hops.{count, from, label, to, labelled, has}
use Rattle.graph.specs.Order.{Ascending}
use Rattle.graph.specs.Search.{first_of, past_of}
use Rattle.base_bounded.proofs.Bools.{clash, no_test, lt_or_le}
use Rattle.graph.proofs.Places.{is_yes, is_from, is_label, is_to, labelled_yes, labelled_parts, has_at, has_place}
use Rattle.graph.proofs.Lookup.{range_holds, range_only, past_within}
use Rattle.graph_successors.proofs.Firsts.{range_more}
use Rattle.base_fixpoint.specs.Pairs.{Pairs, In}
use Rattle.mark_confluence.specs.Rounds.{closing, hop_answers}
use Rattle.mark_confluence.specs.Internal.MarkSet.{is_marked, mark_set}
use Rattle.mark_confluence.proofs.Closing.{closing_yes, closing_says, hop_answers_lem, none_answers}
use Rattle.mark_confluence.proofs.MarkSet.{mark_set_yes, mark_set_says}
use Rattle.mark_diamond_merge.proofs.Rows.{ascending_label}

-- a hop of s2 leads to an s4 that closes s3
pub end_answers : (hs : List ℕ) (u : Pairs) (s2 a s3 s4 : ℕ) → has hs s2 a s4 ≡ true → (s3 ≡ s4) ⊎ In u s3 s4 → hop_answers hs (closing u) s2 a s3 ≡ true
end_answers hs u s2 a s3 s4 e z =
    let p = has_place hs s2 a s4 e in
    hop_answers_lem hs u s2 a s3 p.within (labelled_yes hs s2 a p.at p.from_is p.label_is) (rw p.to_is (closing_yes u s3 s4 z))

-- what the code found out, v, of a hop of s2 to s4, which is t
pub leads_is : (hs : List ℕ) (s2 a : ℕ) {s4 t : ℕ} {v b : Bool} → s4 ≡ t → v ≡ has hs s2 a s4 → v ≡ b → has hs s2 a t ≡ b
leads_is hs s2 a q e d = rw q at (sym e ∙ d)

-- A walk over the silent hops of s3 has come to place k: s2 leads neither to s3 nor to the end of a
-- marked hop that was passed.
pub record Passed (hs ms : List ℕ) (s2 a s3 past k : ℕ) : Type 0 where
  pub after : first_of hs s3 ≤ k
  pub past_is : past ≡ first_of hs (s3 + 1)
  pub itself : has hs s2 a s3 ≡ false
  pub none : (j : ℕ) → first_of hs s3 ≤ j → j < k → is_marked ms j ≡ true → has hs s2 a (to hs j) ≡ false

module _ (hs ms : List ℕ) (s2 a s3 : ℕ) where
  -- s4 is s3
  pub itself_answers : {v : Bool} → v ≡ has hs s2 a s3 → v ≡ true → true ≡ hop_answers hs (closing (mark_set hs ms)) s2 a s3
  itself_answers e d = sym (end_answers hs (mark_set hs ms) s2 a s3 s3 (sym e ∙ d) (inl refl))

  module _ (up : Ascending hs) {past k : ℕ} (w : Passed hs ms s2 a s3 past k) where
    -- the hop at a place before `past` is one of s3
    pub passed_in : k < past → k < count hs
    unfolding past_of
    passed_in m = omega (arith, w.past_is, past_within hs up s3)

    passed_from : k < past → from hs k ≡ s3
    unfolding past_of
    passed_from m = range_only hs up s3 (passed_in m) w.after (omega (arith, w.past_is))

    -- s4 is the end of the marked hop at k
    pub marked_answers : {s4 : ℕ} {v : Bool} → k < past → label hs k ≡ 0 → is_marked ms k ≡ true → s4 ≡ to hs k → v ≡ has hs s2 a s4 → v ≡ true →
        true ≡ hop_answers hs (closing (mark_set hs ms)) s2 a s3
    marked_answers {s4} m z d t e f =
        sym (end_answers hs (mark_set hs ms) s2 a s3 s4 (sym e ∙ f) (inr (mark_set_yes hs ms s3 s4 (passed_in m) (is_yes hs s3 0 s4 k (passed_from m) z (sym t)) d)))

    -- the walk goes on: s2 does not lead to the end of the hop at k, or it is not marked
    pub passed_next : (is_marked ms k ≡ true → has hs s2 a (to hs k) ≡ false) → Passed hs ms s2 a s3 past (k + 1)
    passed_next f = record { after = omega (arith, w.after); past_is = w.past_is; itself = w.itself; none = range_more w.none f }

    -- the walk ends: the hop at k, if it is one of s3, is not silent. So no hop answers.
    pub passed_ends : (k < past → label hs k ≡ 0 → ⊥) → false ≡ hop_answers hs (closing (mark_set hs ms)) s2 a s3
    unfolding past_of
    passed_ends g =
        sym (none_answers hs (mark_set hs ms) s2 a s3 0 (count hs) (λ j m e. (omega arith, m)) (λ j b m e. no_test _ (λ d. other j m e (closing_says (mark_set hs ms) s3 (to hs j) d)))) where
          leads : (j : ℕ) → j < count hs → labelled hs s2 a j ≡ true → has hs s2 a (to hs j) ≡ true
          leads j m e = let (x, y) = labelled_parts hs s2 a j e in rw (x, y) at (has_at hs m)

          -- a silent hop of s3 stands before k
          early : (i : ℕ) → i < count hs → i < past_of hs s3 → from hs i ≡ s3 → label hs i ≡ 0 → i < k
          early i m o x z = ⊎_elim (λ b. b) late (lt_or_le i k) where
            late : k ≤ i → i < k
            late b =
                let c : k < past = omega (arith, w.past_is) in
                let h : label hs k ≤ label hs i = ascending_label hs up b m (passed_from c ∙ sym x) in
                absurd (g c (omega arith))

          other : (j : ℕ) → j < count hs → labelled hs s2 a j ≡ true → (s3 ≡ to hs j) ⊎ In (mark_set hs ms) s3 (to hs j) → ⊥
          other j m e (inl t) = clash (rw (← t) at (leads j m e)) w.itself
          other j m e (inr h) =
              let (i, l, p, d) = mark_set_says hs ms s3 (to hs j) h in
              let x = is_from hs s3 0 (to hs j) i p in
              let (lo, hi) = range_holds hs up s3 l x in
              clash (leads j m e) (rw (is_to hs s3 0 (to hs j) i p) at (w.none i lo (early i l hi x (is_label hs s3 0 (to hs j) i p)) d))
