-- Laws of the table of answers: what it says is right, and stays so when a right answer is written.
-- An entry is a case or a byte; what holds of both is proved of any entry. Assumes nothing.
use Prim.Native.Nat.{ℕ, zero, suc, ◌/◌, ◌%◌, ◌<◌}
use mathlib.Core.Path.{◌≡◌, refl, sym, ap, ◌∙◌}
use mathlib.Core.Bool.{Bool, true, false}
use mathlib.Core.List.{List}
use mathlib.Core.Logic.{◌⊎◌, inl, inr}
use native.Mathlib.Omega.{arith}
use lib.ListN.{length, get_or, set, replicate}
use Rattle.std.proofs.lemmas.List.{get_or_default}
use lib.Seq.{get_or-set_same, get_or-set_other}
use Rattle.graph.specs.Hops.{from, to}
use Rattle.graph.specs.Answers.{most_hops}
use Rattle.base_bounded.proofs.Bools.{eq_or_not}
use Rattle.mark_confluence.specs.Rounds.{survives}
use Rattle.mark_equations.specs.declared.Known.{Known}
use Rattle.mark_equations.specs.declared.Known.TheVariants.{Unknown, Falls, Survives}
use Rattle.mark_equations.specs.Internal.Known.{answer_place, value, word_for, byte_for, known_of, byte_of, Right}
use Rattle.mark_equations.specs.Internal.Bytes.{byte_tells, byte_told}

value_at : (hs : List ℕ) (k i : ℕ) → i < most_hops → value hs (answer_place k i) ≡ survives hs k (from hs i) (to hs i)
unfolding value
value_at hs k i l =
    let q : (answer_place k i) / most_hops ≡ k = omega arith in
    let r : (answer_place k i) % most_hops ≡ i = omega arith in
    rw (q, r)

word_same : (v w : Bool) → word_for v ≡ word_for w → v ≡ w
word_same false false e = refl
word_same false true e = cc
word_same true false e = cc
word_same true true e = refl

nothing_word : (v : Bool) → Unknown ≡ word_for v → ⊥
nothing_word true e = cc
nothing_word false e = cc

-- what an answer in a table of any entries says, and that it may be written
module _ {E : Type 0} (nothing : E) (entry_for : Bool → E) (hs : List ℕ) (m : List E) (right : Right nothing entry_for hs m) (k i : ℕ) (v : Bool) (l : i < most_hops) where
  says_entry : get_or m (answer_place k i) nothing ≡ entry_for v → v ≡ survives hs k (from hs i) (to hs i)
  unfolding Right
  says_entry e = sym (right (answer_place k i) v e) ∙ value_at hs k i l

  -- `said` is what an entry says
  module _ (said : E → Known) where
    pub says_read : ((e : E) (v : Bool) → said e ≡ word_for v → e ≡ entry_for v) → answer_place k i < length m →
        {e : E} → e ≡ get_or m (answer_place k i) e → said e ≡ word_for v → v ≡ survives hs k (from hs i) (to hs i)
    says_read told h {e} p s = says_entry (get_or_default m (answer_place k i) nothing e h ∙ sym p ∙ told e v s)

    pub write_entry : ((v : Bool) → said (entry_for v) ≡ word_for v) → {e : E} → e ≡ entry_for v → answer_place k i < length m →
        v ≡ survives hs k (from hs i) (to hs i) → Right nothing entry_for hs (set m (answer_place k i) e)
    unfolding Right
    write_entry tells {e} p h s j w g = go (eq_or_not j (answer_place k i)) where
      go : (j ≡ answer_place k i) ⊎ (j ≡ answer_place k i → ⊥) → value hs j ≡ w
      go (inl q) =
          let here : e ≡ entry_for w = sym (get_or-set_same m (answer_place k i) e nothing h) ∙ ap (λ (n : ℕ). get_or (set m (answer_place k i) e) n nothing) (sym q) ∙ g in
          ap (value hs) q ∙ value_at hs k i l ∙ sym s ∙ word_same v w (sym (tells v) ∙ ap said (sym p ∙ here) ∙ tells w)
      go (inr n) = right j w (sym (get_or-set_other m (answer_place k i) j e nothing n) ∙ g)

-- a table in which each entry says nothing is right, be it this or another that does
module _ {E : Type 0} (nothing : E) (entry_for : Bool → E) (said : E → Known) (none : said nothing ≡ Unknown) {e : E} (silent : said e ≡ Unknown) where
  said_at : (n j : ℕ) → said (get_or (replicate n e) j nothing) ≡ Unknown
  said_at zero j = none
  said_at (suc n) zero = silent
  said_at (suc n) (suc j) = said_at n j

  pub silent_right : ((v : Bool) → said (entry_for v) ≡ word_for v) → (hs : List ℕ) (n : ℕ) → Right nothing entry_for hs (replicate n e)
  unfolding Right
  silent_right tells hs n j v is = absurd (nothing_word v (sym (said_at n j) ∙ ap said is ∙ tells v))

-- the same of a table of cases, ..
module _ (hs : List ℕ) (m : List Known) (right : Right Unknown word_for hs m) (k i : ℕ) (v : Bool) (l : i < most_hops) where
  pub says : get_or m (answer_place k i) Unknown ≡ word_for v → v ≡ survives hs k (from hs i) (to hs i)
  says = says_entry Unknown word_for hs m right k i v l

  pub write : answer_place k i < length m → v ≡ survives hs k (from hs i) (to hs i) → Right Unknown word_for hs (set m (answer_place k i) (word_for v))
  write = write_entry Unknown word_for hs m right k i v l (λ known. known) (λ w. refl) refl

pub nothing_said : (hs : List ℕ) (n : ℕ) → Right Unknown word_for hs (replicate n Unknown)
nothing_said = silent_right Unknown word_for (λ known. known) refl refl (λ w. refl)

-- .. and of one of bytes
byte_same : (w : Known) (v : Bool) → byte_of w ≡ byte_for v → w ≡ word_for v
byte_same Unknown false e = absurd (omega arith)
byte_same Unknown true e = absurd (omega arith)
byte_same Falls false e = refl
byte_same Falls true e = absurd (omega arith)
byte_same Survives false e = absurd (omega arith)
byte_same Survives true e = refl

module _ (hs m : List ℕ) (right : Right 0 byte_for hs m) (k i : ℕ) (v : Bool) (l : i < most_hops) where
  pub byte_says : {w : Known} → w ≡ known_of (get_or m (answer_place k i) 0) → byte_of w ≡ byte_for v → v ≡ survives hs k (from hs i) (to hs i)
  byte_says {w} p e = says_entry 0 byte_for hs m right k i v l (byte_told _ v (sym p ∙ byte_same w v e))

  pub byte_write : {w : ℕ} → w ≡ byte_for v → answer_place k i < length m → v ≡ survives hs k (from hs i) (to hs i) → Right 0 byte_for hs (set m (answer_place k i) w)
  byte_write = write_entry 0 byte_for hs m right k i v l known_of byte_tells

pub no_byte_said : (hs : List ℕ) (n : ℕ) → Right 0 byte_for hs (replicate n 0)
no_byte_said = silent_right 0 byte_for known_of refl refl byte_tells
