-- What `find` answers of an admitted graph, said without counting: found exactly when the graph has
-- the hop, and then that hop stands at the place; the hops below the place are those that come
-- before it. Nothing else could be answered. Assumes nothing.
use Prim.Native.Nat.{ℕ, ◌<◌, ◌≤◌}
use mathlib.Core.Path.{◌≡◌, refl, sym, ap, ◌∙◌}
use mathlib.Core.Bool.{Bool, true, false, cond}
use mathlib.Core.List.{List}
use mathlib.Core.Logic.{◌⊎◌, inl, inr, ⊎_elim}
use native.Mathlib.Omega.{arith}
use borrow.Author.Tests.{lt-ltb, le-ltb, ne_eqb}
use Rattle.std.proofs.lemmas.Bool.{cases_lt, false_from_ne_true}
use Rattle.graph.specs.Hops.{count, hop_of, hop_at, is, has}
use Rattle.graph.specs.Order.{before}
use Rattle.graph.specs.Search.{lower}
use Rattle.graph_check.specs.Check.{check_of, Admitted}
use Rattle.graph.specs.declared.Shape.{Shape}
use Rattle.graph.specs.declared.Hop.{Hop}
use Rattle.base_bounded.proofs.Bools.{clash}
use Rattle.graph.proofs.Places.{Place, is_yes, has_place}
use Rattle.graph.proofs.Lookup.{lower_within, lower_law, lower_at}
use Rattle.graph_check.proofs.Checked.{admitted_check}
use Rattle.graph_find.specs.declared.Finding.{Finding}
use Rattle.graph_find.specs.Find.{find_of, Finds}
use Rattle.graph_find.proofs.Places.{lower_counts}

-- "with any number but 0 every other figure in the answer is 0"
pub refused_finds_nothing : (sh : Shape) (hs : List ℕ) (s a t : ℕ) → ((check_of sh hs).number ≡ 0 → ⊥) →
    ((find_of sh hs s a t).found ≡ 0) × ((find_of sh hs s a t).place ≡ 0)
unfolding find_of
refused_finds_nothing sh hs s a t n = (rw (ne_eqb (check_of sh hs).number 0 n), rw (ne_eqb (check_of sh hs).number 0 n))

module _ {sh : Shape} {hs : List ℕ} (ok : Admitted sh hs) (s a t : ℕ) where
  abbrev sought : Hop
  sought = hop_of s a t

  abbrev finding : Finding
  finding = find_of sh hs s a t

  pub found_exactly_when_had : finding.found ≡ cond (has hs s a t) 1 0
  unfolding find_of
  found_exactly_when_had = rw (admitted_check sh hs ok)

  -- the place is the one that is searched for
  place_lower : finding.place ≡ lower hs sought
  unfolding find_of
  place_lower = rw (admitted_check sh hs ok) (sym (lower_counts hs ok.ascending s a t))

  pub place_at_most_count : finding.place ≤ count hs
  place_at_most_count = rw place_lower (lower_within hs sought)

  pub below_the_place_come_before : (i : ℕ) → i < finding.place → before (hop_at hs i) sought ≡ true
  below_the_place_come_before i l =
      sym (lower_law hs sought ok.ascending (omega (arith, place_at_most_count))) ∙ lt-ltb _ _ (rw place_lower at l)

  pub from_the_place_none_before : (i : ℕ) → finding.place ≤ i → i < count hs → before (hop_at hs i) sought ≡ false
  from_the_place_none_before i l k = sym (lower_law hs sought ok.ascending k) ∙ le-ltb _ _ (rw place_lower at l)

  -- a hop that is found stands in the graph, and there the search looks
  found_had : finding.found ≡ 1 → has hs s a t ≡ true
  found_had e = go (has hs s a t) refl where
    go : (x : Bool) → has hs s a t ≡ x → has hs s a t ≡ true
    go true d = d
    go false d = absurd (omega (arith, ap (λ (x : Bool). cond x 1 0) (sym d) ∙ sym found_exactly_when_had ∙ e))

  module _ (e : finding.found ≡ 1) where
    stands : Place hs s a t
    stands = has_place hs s a t (found_had e)

    place_is : finding.place ≡ stands.at
    place_is =
        place_lower ∙
        lower_at hs sought ok.ascending stands.within (record { same_from = stands.from_is; same_label = stands.label_is; same_to = stands.to_is })

    pub found_below_count : finding.place < count hs
    found_below_count = rw place_is stands.within

    pub found_stands_there : is hs s a t finding.place ≡ true
    found_stands_there = rw place_is (is_yes hs s a t stands.at stands.from_is stands.label_is stands.to_is)

  pub out_of_range_not_found : (sh.states ≤ s) ⊎ ((sh.labels ≤ a) ⊎ (sh.states ≤ t)) → finding.found ≡ 0
  out_of_range_not_found o = found_exactly_when_had ∙ ap (λ (x : Bool). cond x 1 0) (false_from_ne_true (has hs s a t) (λ d. go (has_place hs s a t d) o)) where
    go : Place hs s a t → (sh.states ≤ s) ⊎ ((sh.labels ≤ a) ⊎ (sh.states ≤ t)) → ⊥
    go p (inl l) = omega (arith, ok.range.from_in p.at p.within, p.from_is)
    go p (inr (inl l)) = omega (arith, ok.range.label_in p.at p.within, p.label_is)
    go p (inr (inr l)) = omega (arith, ok.range.to_in p.at p.within, p.to_is)

  -- what `find` returns is what document 02 asks for
  pub find_correct : Finds sh hs s a t (find_of sh hs s a t)
  find_correct = record {
    has_found = found_exactly_when_had;
    found_within = found_below_count;
    found_there = found_stands_there;
    place_within = place_at_most_count;
    below_before = below_the_place_come_before;
    above_not = from_the_place_none_before;
    outside_not = out_of_range_not_found;
  }

-- of two findings neither has the lower place
not_below : {sh : Shape} {hs : List ℕ} {s a t : ℕ} {f g : Finding} → Finds sh hs s a t f → Finds sh hs s a t g → g.place ≤ f.place
not_below {f = f} {g = g} p q =
    ⊎_elim (λ l. clash (q.below_before f.place l) (p.above_not f.place (omega arith) (omega (arith, l, q.place_within)))) (λ l. l)
    (cases_lt f.place g.place)

-- what is said of a finding fixes its figures
pub only_one_finding : {sh : Shape} {hs : List ℕ} {s a t : ℕ} {f g : Finding} → Finds sh hs s a t f → Finds sh hs s a t g →
    (f.found ≡ g.found) × (f.place ≡ g.place)
only_one_finding p q = (p.has_found ∙ sym q.has_found, omega (arith, not_below p q, not_below q p))
