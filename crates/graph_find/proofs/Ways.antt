-- The ways out of the entry: check refuses, or the search answers. Assumes nothing.
use Rattle.std.proofs.Common.{Result, Ok, Err, refl}
use Prim.Native.Nat.{ℕ}
use mathlib.Core.Path.{◌≡◌, sym, ap, ◌∙◌}
use mathlib.Core.Bool.{cond}
use mathlib.Core.List.{List}
use borrow.Author.Tests.{eq-eqb, ne_eqb}
use Rattle.graph.specs.Hops.{hop_of, has}
use Rattle.graph.specs.Internal.Search.{placed, is_at, found_place}
use Rattle.graph_check.specs.Check.{check_of, Admitted}
use Rattle.graph.specs.declared.Shape.{Shape}
use Rattle.graph.specs.declared.Answer.{Answer}
use Rattle.graph.specs.declared.Hop.{Hop}
use Rattle.graph_check.proofs.Checked.{check_admitted}
use Rattle.graph.proofs.Lookup.{placed_has, found_lower}
use Rattle.graph_find.specs.declared.Finding.{Finding}
use Rattle.graph.specs.Answers.{accepted}
use Rattle.graph_find.specs.Find.{finding_of, hops_before, find_of}
use Rattle.graph_find.specs.Internal.Find.{saturated}
use Rattle.graph_find.proofs.Saturated.{hops_before_saturated, has_saturated}
use Rattle.graph_find.proofs.Places.{lower_counts}

-- what is returned for what the search answers, by its two parts
abbrev searched : Answer → Result ℕ ℕ → Finding
searched answer r = record { answer = answer; found = cond (is_at r) 1 0; place = found_place r }

module _ (sh : Shape) (hs : List ℕ) {answer : Answer} (p : answer ≡ check_of sh hs) where
  pub find_admitted : answer.number ≡ 0 → Admitted sh hs
  find_admitted zero = check_admitted sh hs (sym (ap (λ (x : Answer). x.number) p) ∙ zero)

  module _ (s a t : ℕ) where
    pub find_refused : (answer.number ≡ 0 → ⊥) → record { answer = answer; found = 0; place = 0 } ≡ find_of sh hs s a t
    unfolding find_of
    find_refused n = rw (← p, ne_eqb _ _ n)

    -- h is the hop that is sought, by the numbers of 16 bits
    module _ (zero : answer.number ≡ 0) {x y z : ℕ} (u : x ≡ saturated s) (v : y ≡ saturated a) (w : z ≡ saturated t)
        {h : Hop} (e : h ≡ hop_of x y z) {r : Result ℕ ℕ} (f : r ≡ placed hs h) where
      ok : Admitted sh hs
      ok = find_admitted zero

      answers : r ≡ placed hs (hop_of (saturated s) (saturated a) (saturated t))
      answers = rw (← u, ← v, ← w, ← e) f

      has_result : is_at r ≡ has hs s a t
      has_result = ap is_at answers ∙ placed_has hs _ ok.ascending ∙ has_saturated ok s a t

      place_result : found_place r ≡ hops_before hs s a t
      place_result =
          ap found_place answers ∙ found_lower hs _ ∙ lower_counts hs ok.ascending _ _ _ ∙ hops_before_saturated ok s a t

      found_as : {g : Result ℕ ℕ} → r ≡ g → searched answer g ≡ find_of sh hs s a t
      unfolding find_of
      found_as q = rw (← q, ← p, eq-eqb _ _ zero, has_result, place_result)

-- the graph passes, and the search answers for the hop in 16 bits
pub find_found : (sh : Shape) (hs : List ℕ) → accepted ≡ check_of sh hs → (s a t : ℕ) {x y z : ℕ} → x ≡ saturated s → y ≡ saturated a →
    z ≡ saturated t → {h : Hop} → h ≡ hop_of x y z → (r : Result ℕ ℕ) → r ≡ placed hs h → finding_of (Ok r) ≡ find_of sh hs s a t
find_found sh hs p s a t u v w e (Ok at) f = found_as sh hs p s a t refl u v w e f refl
find_found sh hs p s a t u v w e (Err gap) f = found_as sh hs p s a t refl u v w e f refl
