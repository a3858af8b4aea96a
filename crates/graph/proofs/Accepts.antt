-- Answers one after the other: which one speaks, and what it means that all accept. Assumes
-- nothing.
use Prim.Native.Nat.{ℕ, ◌≤◌}
use mathlib.Core.Path.{◌≡◌, refl, sym, ap, ◌∙◌}
use mathlib.Core.Bool.{Bool, true, false, cond}
use native.Mathlib.Omega.{arith}
use borrow.Author.Tests.{eq-eqb, ne_eqb, eqb-true, eqb-false, leb-true}
use lib.Dec.{eqb, leb}
use Rattle.graph.specs.Answers.{accepted, refused, and_then, capacity_answer, refusal_answer}
use Rattle.graph.specs.declared.Answer.{Answer}
use Rattle.graph.specs.declared.Refusal.{Refusal}
use Rattle.graph.specs.declared.Refusal.TheVariants.{Counts, Initial, HopOutside, HopNotAscending, Ring, OutputTooShort, LabelCounts, MapEntry, NotSilent, TooManyRounds, FileTooShort, FileBits, FileTooLong, BadName, NoSense}

-- the first answer speaks, or the second
pub then_first : (a b : Answer) → (a.number ≡ 0 → ⊥) → and_then a b ≡ a
then_first a b n = rw (ne_eqb a.number 0 n)

pub then_next : (a b : Answer) → a.number ≡ 0 → and_then a b ≡ b
then_next a b e = rw (eq-eqb a.number 0 e)

-- two answers one after the other accept where both do
pub both_accept : (a b : Answer) → (and_then a b).number ≡ 0 → (a.number ≡ 0) × (b.number ≡ 0)
both_accept a b e = go (eqb a.number 0) refl e where
  go : (t : Bool) → eqb a.number 0 ≡ t → (cond t b a).number ≡ 0 → (a.number ≡ 0) × (b.number ≡ 0)
  go true d z = (eqb-true _ _ d, z)
  go false d z = absurd (eqb-false _ _ d z)

-- and the answer is then that of the second
pub second_accepts : (a b : Answer) → (and_then a b).number ≡ 0 → and_then a b ≡ b
second_accepts a b e = then_next a b (both_accept a b e).0

-- a capacity that is not refused is large enough
pub capacity_accepts : (n r : ℕ) → (capacity_answer n r).number ≡ 0 → (capacity_answer n r ≡ accepted) × (n ≤ r)
capacity_accepts n r = go (leb n r) refl where
  go : (t : Bool) → leb n r ≡ t → (cond t accepted (refused 6 0)).number ≡ 0 → (cond t accepted (refused 6 0) ≡ accepted) × (n ≤ r)
  go true d z = (refl, leb-true n r d)
  go false d z = absurd (omega arith)

-- no refusal has number 0
pub refusal_ne0 : (r : Refusal) → (refusal_answer r).number ≡ 0 → ⊥
refusal_ne0 Counts e = absurd (omega arith)
refusal_ne0 Initial e = absurd (omega arith)
refusal_ne0 (HopOutside i) e = absurd (omega arith)
refusal_ne0 (HopNotAscending i) e = absurd (omega arith)
refusal_ne0 (Ring s) e = absurd (omega arith)
refusal_ne0 OutputTooShort e = absurd (omega arith)
refusal_ne0 LabelCounts e = absurd (omega arith)
refusal_ne0 (MapEntry p) e = absurd (omega arith)
refusal_ne0 NotSilent e = absurd (omega arith)
refusal_ne0 TooManyRounds e = absurd (omega arith)
refusal_ne0 (FileTooShort n) e = absurd (omega arith)
refusal_ne0 FileBits e = absurd (omega arith)
refusal_ne0 (FileTooLong b) e = absurd (omega arith)
refusal_ne0 (BadName b) e = absurd (omega arith)
refusal_ne0 NoSense e = absurd (omega arith)

-- what an entry returned, by its answer: a refusal has no number 0, and an acceptance has it
pub refuses : (r : Refusal) {a : Answer} → refusal_answer r ≡ a → a.number ≡ 0 → ⊥
refuses r p e = refusal_ne0 r (ap (λ (x : Answer). x.number) p ∙ e)

pub accepts : {a : Answer} → accepted ≡ a → a.number ≡ 0
accepts p = sym (ap (λ (x : Answer). x.number) p)
