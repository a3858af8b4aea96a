-- The marked set of a sense is of the sense, and it holds every set of it, decidable or not: so it
-- is the union of all of them. The marks of a sense are among those of a weaker one. The sense is
-- an argument throughout; R1 is named last, where its marked set is document 01's. Assumes nothing.
use Prim.Native.Nat.{ℕ}
use mathlib.Core.Path.{◌≡◌, ap, ◌∙◌}
use mathlib.Core.Bool.{true}
use mathlib.Core.List.{List}
use mathlib.Core.Logic.{◌↔◌}
use Rattle.base_bounded.proofs.Bools.{same_test}
use Rattle.graph.specs.Hops.{count}
use Rattle.graph.specs.declared.Shape.{Shape}
use Rattle.graph_check.specs.Check.{InRange}
use Rattle.lts.specs.Closes.{Sense, r1, r2, r3, r8, ConfluentIn, Implies}
use Rattle.lts.specs.Internal.Closes.{Greatest}
use Rattle.lts.proofs.Closes.{r1→r2, r1→r3, implies_r8, confluent_within_greatest}
use Rattle.lts.proofs.SenseForms.{r1_iff}
use Rattle.walk_silent.specs.Silent.{HopOf}
use Rattle.base_fixpoint.specs.Pairs.{Pairs, In, Subset}
use Rattle.base_fixpoint.specs.Internal.Approximants.{Monotone, PostFixed}
use Rattle.base_fixpoint.proofs.Approximants.{approximant_within, approximant_greatest, approximant_post_fixed, approximant_same}
use Rattle.mark_confluence.specs.Rounds.{silent_hops, marked, ConfluentSet}
use Rattle.mark_confluence.proofs.Rounds.{silent_listed}
use Rattle.mark_confluence.proofs.Marked.{marked_confluent, marked_greatest}
use Rattle.mark_senses.specs.Senses.{closes_in, marked_in, marked_by}
use Rattle.mark_senses.proofs.Row.{sense_1}
use Rattle.mark_senses.proofs.Tests.{closes_says, closes_mono, closes_yes}

module _ (sense : Sense) (sh : Shape) (hs : List ℕ) where
  -- "the condition grows with U"
  pub closes_monotone : Monotone (closes_in sense sh hs)
  closes_monotone = closes_mono sense sh hs

  pub in_silent : Subset (In (marked_in sense sh hs)) (In (silent_hops hs))
  unfolding marked_in
  in_silent = approximant_within (closes_in sense sh hs) (silent_hops hs) (count hs)

  -- a hop of the marked set closes with any set that holds the marked set
  pub in_kept : PostFixed (closes_in sense sh hs) (In (marked_in sense sh hs))
  unfolding marked_in
  in_kept = approximant_post_fixed (closes_in sense sh hs) (silent_hops hs) closes_monotone (silent_listed hs)

  -- and such a set of silent hops that all close with it is the marked set
  pub in_same : (v : Pairs) → Subset (In v) (In (silent_hops hs)) → Subset (In v) (In (closes_in sense sh hs v)) → Subset (In (marked_in sense sh hs)) (In v) →
      v ≡ marked_in sense sh hs
  unfolding marked_in
  in_same = approximant_same (closes_in sense sh hs) (silent_hops hs) closes_monotone (silent_listed hs)

  -- "the marked set is of that sense"
  pub marked_confluent_in : ConfluentIn sense (HopOf hs) (In (marked_in sense sh hs))
  marked_confluent_in =
      record {
        silent = in_silent;
        closed = λ s t e. closes_says sense sh hs (marked_in sense sh hs) s t (in_kept (marked_in sense sh hs) (λ x y m. m) s t e);
      }

  module _ (ranged : InRange sh hs) where
    -- a set of the sense keeps itself through a round
    pub set_kept : {W : ℕ → ℕ → Type 0} → ConfluentIn sense (HopOf hs) W → PostFixed (closes_in sense sh hs) W
    set_kept c v f s t m = closes_yes sense sh hs ranged c.silent v f s t m (c.closed s t m)

    -- ".. and holds every set of it"
    pub marked_greatest_in : Greatest sense (HopOf hs) (In (marked_in sense sh hs))
    unfolding marked_in
    marked_greatest_in W c = approximant_greatest (closes_in sense sh hs) (silent_hops hs) closes_monotone (silent_listed hs) c.silent (set_kept c)

    -- a hop is marked exactly when some set of the sense has it
    pub marked_in_iff : (s t : ℕ) →
        (marked_in sense sh hs s t ≡ true → (W : ℕ → ℕ → Type 0) × ConfluentIn sense (HopOf hs) W × W s t) ×
        ((W : ℕ → ℕ → Type 0) × ConfluentIn sense (HopOf hs) W × W s t → marked_in sense sh hs s t ≡ true)
    marked_in_iff s t = ((λ e. (In (marked_in sense sh hs), marked_confluent_in, e)), (λ (W, c, m). marked_greatest_in W c s t m))

module _ (sh : Shape) (hs : List ℕ) (ranged : InRange sh hs) where
  -- what is marked in a sense is marked in a weaker one
  pub marked_mono : {sense weaker : Sense} → Implies sense weaker → Subset (In (marked_in sense sh hs)) (In (marked_in weaker sh hs))
  marked_mono {sense} {weaker} k = confluent_within_greatest k (marked_confluent_in sense sh hs) (marked_greatest_in weaker sh hs ranged)

  -- "R1's marks are among R2's and R3's, and theirs among R8's"
  pub marked_r1_r2 : Subset (In (marked_in r1 sh hs)) (In (marked_in r2 sh hs))
  marked_r1_r2 = marked_mono r1→r2

  pub marked_r1_r3 : Subset (In (marked_in r1 sh hs)) (In (marked_in r3 sh hs))
  marked_r1_r3 = marked_mono r1→r3

  pub marked_r8 : (sense : Sense) → Subset (In (marked_in sense sh hs)) (In (marked_in r8 sh hs))
  marked_r8 sense = marked_mono (implies_r8 sense)

  -- sense 1 is document 01's condition, and its marked set is document 01's
  pub confluent_r1_iff : {W : ℕ → ℕ → Type 0} → ConfluentSet hs W ↔ ConfluentIn r1 (HopOf hs) W
  confluent_r1_iff {W} = (
    (λ c. record { silent = c.silent; closed = (r1_iff (HopOf hs) W).1 c.closed }),
    (λ c. record { silent = c.silent; closed = (r1_iff (HopOf hs) W).0 c.closed }),
  )

  -- sense 1 marks document 01's marked set
  pub marked_in_r1 : marked_in r1 sh hs ≡ marked hs
  marked_in_r1 = λ k s t. same_test (marked_in r1 sh hs s t) (marked hs s t)
      (marked_greatest hs (In (marked_in r1 sh hs)) (confluent_r1_iff.1 (marked_confluent_in r1 sh hs)) s t)
      (marked_greatest_in r1 sh hs ranged (In (marked hs)) (confluent_r1_iff.0 (marked_confluent hs)) s t) k

  -- which is that of the sense with number 1
  pub marked_by_1 : marked_by 1 sh hs ≡ marked hs
  marked_by_1 = ap (λ (k : Sense). marked_in k sh hs) sense_1 ∙ marked_in_r1
