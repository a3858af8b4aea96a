-- The place m along s3's row: it brackets the search of the silent hop from s3 to each end that is
-- still to come, since these ends rise. Assumes nothing.
use Rattle.std.proofs.Common.{Result, Ok, Err}
use Prim.Native.Nat.{ℕ, ◌+◌, ◌<◌, ◌≤◌}
use mathlib.Core.Path.{◌≡◌, refl, sym, ◌∙◌}
use mathlib.Core.Bool.{Bool}
use mathlib.Core.List.{List}
use mathlib.Core.Logic.{inl, inr}
use native.Mathlib.Omega.{arith}
use Rattle.graph.specs.Hops.{count, label, to, hop_of, hop_at}
use Rattle.graph.specs.Order.{Ascending}
use Rattle.graph.specs.Internal.Search.{placed, found_place}
use Rattle.graph.specs.Search.{first_of}
use Rattle.graph.specs.declared.Hop.{Hop}
use Rattle.graph.proofs.Ordered.{Below, before_below, below_before, ascending_lt}
use Rattle.graph.proofs.Lookup.{found_lower, Onward, onward}
use Rattle.graph_successors.proofs.Rows.{row_bracket}
use Rattle.mark_confluence.specs.Rounds.{closing}
use Rattle.mark_confluence.specs.Internal.MarkSet.{mark_set}
use Rattle.mark_confluence.proofs.Closing.{closing_other}
use Rattle.mark_confluence.proofs.MarkSet.{mark_set_found, mark_set_missing}
use Rattle.graph_successors.specs.Internal.Row.{Row}
use Rattle.mark_diamond_merge.specs.Internal.Found.{found_marked}

-- m and `end` bracket the silent hop from s3 to the end of each hop labelled a from k on
abbrev pub Along : List ℕ → ℕ → ℕ → ℕ → ℕ → ℕ → ℕ → Type 0
Along hs a s3 past end m k = Onward hs (λ (i : ℕ). (i < past) × (label hs i ≡ a)) (λ (i : ℕ). hop_of s3 0 (to hs i)) m end k

module _ (hs : List ℕ) (up : Ascending hs) where
  -- the ends of a state's hops of one label rise
  ends_rise : {s a at past : ℕ} → Row hs s a at past → {k i : ℕ} → at ≤ k → k < i → i < past → label hs k ≡ a → label hs i ≡ a → to hs k < to hs i
  ends_rise row {k} {i} l m n p q = go (before_below (hop_at hs k) (hop_at hs i) (ascending_lt hs up i m (omega (arith, row.within)))) where
    go : Below (hop_at hs k) (hop_at hs i) → to hs k < to hs i
    go (inl d) = absurd (omega (arith, row.own k l (omega arith), row.own i (omega arith) n))
    go (inr (d, inl e)) = absurd (omega arith)
    go (inr (d, inr (e, f))) = f

  module _ (s3 : ℕ) {a past end m : ℕ} where
    pub along_start : {k : ℕ} → m ≡ first_of hs s3 → end ≡ first_of hs (s3 + 1) → Along hs a s3 past end m k
    along_start p q i l w = row_bracket hs up (hop_of s3 0 (to hs i)) p q

    pub along_next : {s at : ℕ} → Row hs s a at past → {k r s4 : ℕ} {h : Hop} {f : Result ℕ ℕ} → Along hs a s3 past end m k → at ≤ k → k < past → label hs k ≡ a →
        s4 ≡ to hs k → h ≡ hop_of s3 0 s4 → f ≡ placed hs h → r ≡ found_place f → Along hs a s3 past end r (k + 1)
    along_next row {k} w l n p t q e v =
        onward hs up (λ i o (u, d). below_before (hop_of s3 0 (to hs k)) (hop_of s3 0 (to hs i)) (inr (refl, inr (refl, ends_rise row l o u p d)))) w (n, p)
        (v ∙ rw (e, q, t) (found_lower hs (hop_of s3 0 (to hs k))))

-- what the code found out, v, of the silent hop from s3 to s4, another state, by the search that
-- came to f
module _ (hs ms : List ℕ) (up : Ascending hs) (s3 s4 : ℕ) {h : Hop} {f : Result ℕ ℕ} (q : h ≡ hop_of s3 0 s4) (e : f ≡ placed hs h) where
  pub found_marked_lem : {p : ℕ} → f ≡ Ok p → p < count hs
  found_marked_lem d = (mark_set_found hs ms up s3 s4 q e d).0

  pub found_closes : {v : Bool} → (s3 ≡ s4 → ⊥) → v ≡ found_marked ms f → v ≡ closing (mark_set hs ms) s3 s4
  found_closes {v} n d = d ∙ told f refl ∙ sym (closing_other (mark_set hs ms) s3 s4 n) where
    told : (x : Result ℕ ℕ) → f ≡ x → found_marked ms x ≡ mark_set hs ms s3 s4
    told (Ok p) g = (mark_set_found hs ms up s3 s4 q e g).1
    told (Err p) g = mark_set_missing hs ms up s3 s4 q e g
