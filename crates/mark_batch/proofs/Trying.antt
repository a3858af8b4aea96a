-- A batch of hops tried together. The tables, one after the other, say which hops are answered in
-- the sense; the filter by them takes the mark of no hop of the marked set, and if it takes none
-- each hop of the batch is answered. When no sweep takes any, the marks are those of the marked
-- set. No sense is named here. Assumes nothing.
use Prim.Native.Nat.{ℕ, ◌+◌, ◌-◌, ◌<◌, ◌≤◌}
use mathlib.Core.Path.{◌≡◌, refl, sym, ap, ◌∙◌}
use mathlib.Core.Bool.{Bool, true, false, not, cond, ◌&&◌, ◌||◌}
use mathlib.Core.List.{List}
use mathlib.Core.Logic.{◌⊎◌, inl, inr, ⊎_elim}
use native.Mathlib.Omega.{arith}
use lib.ListN.{get_or, drop}
use lib.Dec.{eqb, ltb}
use borrow.Author.Tests.{eqb-true, eq-eqb, lt-ltb, ltb-true}
use Rattle.base_bounded.proofs.Bools.{and_yes, and_left, and_right}
use Rattle.base_bounded.proofs.Quantifiers.{all_at, all_yes, any_found}
use Rattle.base_outputs.specs.Output.{on_front}
use Rattle.graph.specs.Hops.{count, from, label, to, is, has}
use Rattle.graph.specs.Order.{Ascending}
use Rattle.graph.specs.declared.Shape.{Shape}
use Rattle.graph.proofs.Places.{has_at, has_place, is_yes, is_from, is_to}
use Rattle.graph_check.specs.Check.{InRange}
use Rattle.lts.specs.Closes.{nowhere, Via, here, Sense, Answered, Closes}
use Rattle.walk_silent.specs.Silent.{HopOf}
use Rattle.base_fixpoint.specs.Pairs.{In}
use Rattle.mark_confluence.specs.Internal.MarkSet.{is_marked, mark_set}
use Rattle.mark_confluence.specs.Marks.{marks_of}
use Rattle.mark_confluence.proofs.MarkSet.{mark_set_says, mark_set_yes}
use Rattle.mark_senses.specs.Senses.{closes_in, marked_in}
use Rattle.mark_senses.proofs.Tests.{closes_says, closes_yes}
use Rattle.mark_senses.proofs.Marked.{in_kept, in_same}
use Rattle.mark_removal.specs.Internal.Removal.{mark_count, Marking, Swept}
use Rattle.mark_removal.proofs.Fixpoint.{fixpoint_marks}
use Rattle.base_bitset.specs.Internal.Bits.{bit_in, word_bits}
use Rattle.mark_batch_spread.specs.Internal.Spread.{SpreadBack, SpreadForth}
use Rattle.mark_batch_tables.specs.Internal.BatchTables.{KeyTable, AnswerTable}
use Rattle.mark_batch_filter.specs.Internal.Filtered.{fits, Filtered}
use Rattle.mark_batch.specs.Internal.Batch.{AnsweredAt, TriedIn}

-- a reach that leads nowhere leaves a table as it is
pub back_nowhere : (U : ℕ → ℕ → Type 0) (ws : List ℕ) → SpreadBack U nowhere ws ws
back_nowhere U ws s b = ((λ e. (s, here, e)), (λ (t, v, e). same v e)) where
  same : {t : ℕ} → Via U nowhere s t → bit_in ws t b ≡ true → bit_in ws s b ≡ true
  same here e = e

-- bit b of a table by a key
module _ (key : ℕ → ℕ) (base m : ℕ) (table : List ℕ) (k : KeyTable key base m table) where
  keyed_says : (s b : ℕ) → bit_in table s b ≡ true → (b < m) × (key (base + b) ≡ s)
  keyed_says s b e =
      let h : (ltb b m && eqb (key (base + b)) s) ≡ true = sym (k s b) ∙ e in
      (ltb-true b m (and_left (ltb b m) (eqb (key (base + b)) s) h), eqb-true (key (base + b)) s (and_right (ltb b m) (eqb (key (base + b)) s) h))

  keyed_yes : (b : ℕ) → b < m → bit_in table (key (base + b)) b ≡ true
  keyed_yes b l = k (key (base + b)) b ∙ and_yes (lt-ltb b m l) (eq-eqb (key (base + b)) (key (base + b)) refl)

-- the tables of a batch
pub record Tables (sense : Sense) (hs : List ℕ) (U : ℕ → ℕ → Type 0) (base m : ℕ) (answers : List ℕ) : Type 0 where
  pub ends : List ℕ
  pub closed : List ℕ
  pub followed : List ℕ
  pub labels : List ℕ
  pub taken : List ℕ
  pub ends_are : KeyTable (to hs) base m ends
  pub closed_are : SpreadForth U sense.closing ends closed
  pub followed_are : SpreadBack U sense.after closed followed
  pub labels_are : KeyTable (label hs) base m labels
  pub taken_are : AnswerTable hs labels followed taken
  pub answers_are : SpreadBack U sense.before taken answers

module _ {sense : Sense} {hs : List ℕ} {U : ℕ → ℕ → Type 0} {base m : ℕ} {answers : List ℕ} (t : Tables sense hs U base m answers) where
  pub answers_say : (p b : ℕ) → bit_in answers p b ≡ true → Answered sense (HopOf hs) U p (label hs (base + b)) (to hs (base + b))
  answers_say s2 b e =
      let (p, x, h) = (t.answers_are s2 b).0 e in
      let (a, q, y, l, k) = (t.taken_are p b).0 h in
      let (s4, z, f) = (t.followed_are q b).0 k in
      let (s3, w, g) = (t.closed_are s4 b).0 f in
      let (_, i) = keyed_says (label hs) base m t.labels t.labels_are a b l in
      let (_, j) = keyed_says (to hs) base m t.ends t.ends_are s3 b g in
      rw (i, j) (p, q, s4, x, y, z, w)

  pub answers_yes : (p b : ℕ) → b < m → Answered sense (HopOf hs) U p (label hs (base + b)) (to hs (base + b)) → bit_in answers p b ≡ true
  answers_yes s2 b l (p, q, s4, x, y, z, w) =
      (t.answers_are s2 b).1 (
        p,
        x,
        (t.taken_are p b).1 (
          label hs (base + b),
          q,
          y,
          keyed_yes (label hs) base m t.labels t.labels_are b l,
          (t.followed_are q b).1
              (s4, z, (t.closed_are s4 b).1 (to hs (base + b), w, keyed_yes (to hs) base m t.ends t.ends_are b l)),
        ),
      )

-- the filter by the tables of a batch
module _ (sense : Sense) (sh : Shape) (hs ms : List ℕ) (k : Marking hs (marked_in sense sh hs) ms) (base m : ℕ) (froms answers : List ℕ)
    (few : m ≤ word_bits) (inside : base + m ≤ count hs) (f : KeyTable (from hs) base m froms) (t : Tables sense hs (In (mark_set hs ms)) base m answers) where
  -- a hop fits exactly when each hop of its state in the batch is answered
  fits_says : (i j : ℕ) → fits hs froms answers i ≡ true → base ≤ j → j < base + m → from hs j ≡ from hs i → AnsweredAt sense hs ms i j
  unfolding fits
  fits_says i j e lo hi q =
      let b : ℕ = j - base in
      let l : b < m = omega arith in
      let here : base + b ≡ j = omega arith in
      let own : bit_in froms (from hs i) b ≡ true = rw (← q) (rw here at (keyed_yes (from hs) base m froms f b l)) in
      let has : bit_in answers (to hs i) b ≡ true =
      or_second own (all_at (λ (b : ℕ). not (bit_in froms (from hs i) b) || bit_in answers (to hs i) b) word_bits e (omega arith)) in
      rw here at (answers_say t (to hs i) b has) where
        or_second : {x y : Bool} → x ≡ true → (not x || y) ≡ true → y ≡ true
        or_second {x} {y} p h = rw p at h

  fits_yes : (i : ℕ) → ((j : ℕ) → base ≤ j → j < base + m → from hs j ≡ from hs i → AnsweredAt sense hs ms i j) → fits hs froms answers i ≡ true
  unfolding fits
  fits_yes i g = all_yes (λ (b : ℕ). not (bit_in froms (from hs i) b) || bit_in answers (to hs i) b) word_bits (λ b l. by b (bit_in froms (from hs i) b) refl) where
    by : (b : ℕ) (x : Bool) → bit_in froms (from hs i) b ≡ x → (not x || bit_in answers (to hs i) b) ≡ true
    by b false e = refl
    by b true e =
        let (l, q) = keyed_says (from hs) base m froms f (from hs i) b e in
        answers_yes t (to hs i) b l (g (base + b) (omega arith) (omega arith) q)

  -- a hop of the marked set fits
  marked_fits : (i : ℕ) → marked_in sense sh hs (from hs i) (to hs i) ≡ true → fits hs froms answers i ≡ true
  marked_fits i e = fits_yes i answered where
    closed : Closes sense (HopOf hs) (In (mark_set hs ms)) (from hs i) (to hs i)
    closed = closes_says sense sh hs (mark_set hs ms) (from hs i) (to hs i) (in_kept sense sh hs (mark_set hs ms) k.holds (from hs i) (to hs i) e)

    answered : (j : ℕ) → base ≤ j → j < base + m → from hs j ≡ from hs i → AnsweredAt sense hs ms i j
    answered j lo hi q = let l : j < count hs = omega arith in closed (label hs j) (to hs j) (rw q at (has_at hs l))

  pub filtered_swept : (new : List ℕ) (r : ℕ) → Filtered hs ms froms answers new r → Swept hs (marked_in sense sh hs) (TriedIn sense hs base (base + m)) ms new r
  unfolding mark_count is_marked
  filtered_swept new r g =
      record {
        marking = record { capacity = omega (arith, g.long, k.capacity); bits = bits; silent = λ i l o. k.silent i l (was i l o); holds = holds };
        beyond = g.beyond;
        fewer = g.fewer;
        same = λ q. (g.same q, known (g.same q));
      } where
        stays : (i : ℕ) → i < count hs → fits hs froms answers i ≡ true → get_or new i 0 ≡ get_or ms i 0
        stays i l e = g.mark i l ∙ kept (is_marked ms i) e where
          kept : (x : Bool) {y : Bool} → y ≡ true → cond (x && not y) 0 (get_or ms i 0) ≡ get_or ms i 0
          kept true e = rw e
          kept false e = refl

        bits : (i : ℕ) → i < count hs → (get_or new i 0 ≡ 0) ⊎ (get_or new i 0 ≡ 1)
        bits i l = ⊎_elim (λ q. inl (g.mark i l ∙ off (is_marked ms i && not (fits hs froms answers i)) q)) (λ q. by (is_marked ms i && not (fits hs froms answers i)) refl q) (k.bits i l) where
          off : (x : Bool) → get_or ms i 0 ≡ 0 → cond x 0 (get_or ms i 0) ≡ 0
          off true q = refl
          off false q = q

          by : (x : Bool) → (is_marked ms i && not (fits hs froms answers i)) ≡ x → get_or ms i 0 ≡ 1 → (get_or new i 0 ≡ 0) ⊎ (get_or new i 0 ≡ 1)
          by true e q = inl (g.mark i l ∙ rw e)
          by false e q = inr (g.mark i l ∙ rw e q)

        was : (i : ℕ) → i < count hs → is_marked new i ≡ true → is_marked ms i ≡ true
        was i l o = by (is_marked ms i && not (fits hs froms answers i)) refl where
          by : (x : Bool) → (is_marked ms i && not (fits hs froms answers i)) ≡ x → is_marked ms i ≡ true
          by true e = and_left (is_marked ms i) (not (fits hs froms answers i)) e
          by false e =
              let q : get_or new i 0 ≡ get_or ms i 0 = g.mark i l ∙ rw e in
              rw q at o

        holds : (s u : ℕ) → marked_in sense sh hs s u ≡ true → mark_set hs new s u ≡ true
        holds s u e =
            let (i, l, h, o) = mark_set_says hs ms s u (k.holds s u e) in
            let a = is_from hs s 0 u i h in
            let b = is_to hs s 0 u i h in
            mark_set_yes hs new s u l h (rw (stays i l (marked_fits i (rw (a, b) e))) o)

        known : new ≡ ms → TriedIn sense hs base (base + m) ms
        known q i j l o lo hi e = fits_says i j (fit (fits hs froms answers i) refl) lo hi e where
          fit : (x : Bool) → fits hs froms answers i ≡ x → fits hs froms answers i ≡ true
          fit true p = p
          fit false p =
              let z : get_or new i 0 ≡ 0 = g.mark i l ∙ rw (o, p) in
              absurd (omega (arith, eqb-true (get_or ms i 0) 1 o, ap (λ (xs : List ℕ). get_or xs i 0) q))

-- the end of sweeping: each hop of the graph has been tried, and none fell
module _ (sense : Sense) (sh : Shape) (hs ms : List ℕ) (ranged : InRange sh hs) (up : Ascending hs) (k : Marking hs (marked_in sense sh hs) ms)
    (known : TriedIn sense hs 0 (count hs) ms) where
  -- the marks are of silent hops
  held_silent : (s t : ℕ) → In (mark_set hs ms) s t → HopOf hs s 0 t
  unfolding has
  held_silent s t e = let (i, l, h, o) = mark_set_says hs ms s t e in any_found (is hs s 0 t) (count hs) l h

  tried_closes : (i : ℕ) → i < count hs → is_marked ms i ≡ true → closes_in sense sh hs (mark_set hs ms) (from hs i) (to hs i) ≡ true
  tried_closes i l o =
      closes_yes sense sh hs ranged held_silent (mark_set hs ms) (λ s t m. m) (from hs i) (to hs i)
      (mark_set_yes hs ms (from hs i) (to hs i) l (is_yes hs (from hs i) 0 (to hs i) i refl (k.silent i l o) refl) o) closed where
        closed : Closes sense (HopOf hs) (In (mark_set hs ms)) (from hs i) (to hs i)
        closed a s3 h =
            let p = has_place hs (from hs i) a s3 h in
            rw (p.label_is, p.to_is) at (known i p.at l o (omega arith) p.within p.from_is)

  -- so the marks are those of the marked set of the sense
  pub tried_marks : (out : List ℕ) → drop (count hs) ms ≡ drop (count hs) out → ms ≡ on_front (marks_of hs (marked_in sense sh hs)) out
  tried_marks = fixpoint_marks (closes_in sense sh hs) (in_same sense sh hs) up k tried_closes
