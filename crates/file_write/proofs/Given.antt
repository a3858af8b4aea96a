-- The ways out of writing, in the order of the checks. Assumes nothing.
use Prim.Native.Nat.{ℕ, ◌-◌, ◌<◌, ◌≤◌}
use mathlib.Core.Path.{◌≡◌, refl, sym, ap, ◌∙◌}
use mathlib.Core.List.{List}
use mathlib.Core.Logic.{inl, ⊎_elim}
use native.Mathlib.Omega.{arith}
use borrow.Author.Tests.{lt-ltb, le-ltb, lt-leb, le-leb, eq-eqb, ne_eqb}
use lib.ListN.{length}
use Rattle.base_bounded.proofs.Bools.{eq_or_not}
use Rattle.graph.specs.Hops.{count}
use Rattle.graph.specs.Answers.{most_labels, most_hops, accepted, refused, capacity_answer}
use Rattle.graph_check.specs.Check.{check_of, Admitted}
use Rattle.graph.specs.declared.Shape.{Shape}
use Rattle.graph.specs.declared.Answer.{Answer}
use Rattle.graph_check.proofs.Checked.{check_admitted, admitted_check}
use Rattle.graph.proofs.Accepts.{both_accept, second_accepts, capacity_accepts}
use Rattle.file_names.specs.Block.{name_at, first_bad}
use Rattle.file_names.specs.Internal.Block.{Searchable}
use Rattle.file_names.proofs.Blocks.{name_less, name_least}
use Rattle.base_outputs.specs.Output.{on_front}
use Rattle.file_encode.specs.Encode.{encode}
use Rattle.file_encode.specs.Internal.Encode.{Writable}
use Rattle.file_write.specs.Write.{block_answer, names_given, given_answer, write_answer, refused_written, write_of, write_bytes}
use Rattle.file_write.specs.declared.Written.{Written}

-- row 14
module _ (ns : List ℕ) (n : ℕ) {end : ℕ} (e : end ≡ name_at ns n) where
  pub block_early : length ns < end → refused 14 (length ns) ≡ block_answer ns n
  unfolding block_answer
  block_early l = rw (← e, lt-ltb _ _ l)

  module _ (l : end ≤ length ns) where
    pub block_left : end < length ns → refused 14 end ≡ block_answer ns n
    unfolding block_answer
    block_left m = rw (← e, le-ltb _ _ l, lt-ltb _ _ m)

    pub block_searchable : {places : ℕ} → n ≤ places → Searchable ns n places
    block_searchable g = record { whole = rw (← e) l; capacity = inl g }

    module _ (m : length ns ≤ end) {bad : ℕ} (d : bad ≡ name_at ns (first_bad ns n)) where
      pub block_bad : bad < end → refused 14 bad ≡ block_answer ns n
      unfolding block_answer
      block_bad o = rw (← e, le-ltb _ _ l, le-ltb _ _ m, lt-ltb _ _ (name_less ns (first_bad ns n) n (rw (← d, ← e) o)), ← d)

      pub block_good : end ≤ bad → accepted ≡ block_answer ns n
      unfolding block_answer
      block_good o = rw (← e, le-ltb _ _ l, le-ltb _ _ m, le-ltb _ _ (name_least ns n (first_bad ns n) (rw (← d, ← e) o)))

module _ (sh : Shape) (hs ns : List ℕ) where
  -- rows 1 to 4, then 14
  module _ {a : Answer} (e : a ≡ check_of sh hs) where
    pub graph_refused : (a.number ≡ 0 → ⊥) → a ≡ given_answer sh hs ns
    unfolding given_answer
    graph_refused n = rw (← e, ne_eqb _ _ n)

    module _ (z : a.number ≡ 0) where
      admitted : Admitted sh hs
      admitted = check_admitted sh hs (ap (λ (x : Answer). x.number) (sym e) ∙ z)

      pub graph_labels : (1 ≤ sh.labels) × (sh.labels ≤ most_labels)
      graph_labels = (admitted.labels_some, admitted.labels_most)

      pub graph_bare : length ns ≡ 0 → a ≡ given_answer sh hs ns
      unfolding given_answer names_given
      graph_bare d = rw (← e, eq-eqb _ _ z, eq-eqb _ _ d) (e ∙ admitted_check sh hs admitted)

      pub graph_named : (length ns ≡ 0 → ⊥) → {r : Answer} → r ≡ block_answer ns (sh.labels - 1) → r ≡ given_answer sh hs ns
      unfolding given_answer names_given
      graph_named n d = rw (← e, eq-eqb _ _ z, ne_eqb _ _ n) d

  -- then 6
  module _ (capacity : ℕ) {a : Answer} (e : a ≡ given_answer sh hs ns) where
    pub given_speaks : (a.number ≡ 0 → ⊥) → a ≡ write_answer sh hs ns capacity
    unfolding write_answer
    given_speaks n = rw (← e, ne_eqb _ _ n)

    module _ (z : a.number ≡ 0) where
      pub given_admitted : Admitted sh hs
      unfolding given_answer
      given_admitted = check_admitted sh hs (both_accept (check_of sh hs) (names_given sh ns) (ap (λ (x : Answer). x.number) (sym e) ∙ z)).0

      pub given_few : count hs ≤ most_hops
      given_few = given_admitted.hops_most

      module _ {n : ℕ} (d : n ≡ length (encode sh hs ns)) where
        pub capacity_speaks : capacity < n → refused 6 0 ≡ write_answer sh hs ns capacity
        unfolding write_answer
        capacity_speaks l = rw (← e, eq-eqb _ _ z, ← d, lt-leb _ _ l)

        pub none_speaks : n ≤ capacity → accepted ≡ write_answer sh hs ns capacity
        unfolding write_answer
        none_speaks l = rw (← e, eq-eqb _ _ z, ← d, le-leb _ _ l)

        pub writable : n ≤ capacity → Writable sh hs ns capacity
        writable l = record {
          states_fit = omega (arith, given_admitted.states_most);
          labels_fit = omega (arith, given_admitted.labels_most);
          initial_fits = omega (arith, given_admitted.states_most, given_admitted.initial_in);
          hops_fit = given_few;
          fits = rw (← d) l;
        }

  -- what acceptance says
  pub write_accepts : (capacity : ℕ) → (write_answer sh hs ns capacity).number ≡ 0 →
      (write_answer sh hs ns capacity ≡ accepted) × ((given_answer sh hs ns).number ≡ 0) × (length (encode sh hs ns) ≤ capacity)
  unfolding write_answer
  write_accepts capacity z =
      let (g, r) = both_accept (given_answer sh hs ns) (capacity_answer (length (encode sh hs ns)) capacity) z in
      let (a, l) = capacity_accepts (length (encode sh hs ns)) capacity r in
      (second_accepts (given_answer sh hs ns) _ z ∙ a, g, l)

  -- what is returned with a refusal and with acceptance
  module _ (capacity : ℕ) where
    pub refused_gives : {a : Answer} → a ≡ write_answer sh hs ns capacity → (a.number ≡ 0 → ⊥) → refused_written a ≡ write_of sh hs ns capacity
    unfolding write_of
    refused_gives e n = rw (← e, ne_eqb _ _ n)

    pub accepted_gives : {n : ℕ} → accepted ≡ write_answer sh hs ns capacity → n ≡ length (encode sh hs ns) →
        ◌≡◌ {A = Written} (record { answer = accepted; length = n }) (write_of sh hs ns capacity)
    unfolding write_of
    accepted_gives y d = rw (d, ← y)

    pub gives_answer : (write_of sh hs ns capacity).answer ≡ write_answer sh hs ns capacity
    unfolding write_of
    gives_answer =
        ⊎_elim (λ z. rw (eq-eqb (write_answer sh hs ns capacity).number 0 z) (sym (write_accepts capacity z).0))
        (λ n. rw (ne_eqb (write_answer sh hs ns capacity).number 0 n)) (eq_or_not (write_answer sh hs ns capacity).number 0)

  -- what is then written
  module _ (old : List ℕ) {w : Written} (e : w ≡ write_of sh hs ns (length old)) where
    same : w.answer.number ≡ (write_answer sh hs ns (length old)).number
    same = ap (λ (x : Written). x.answer.number) e ∙ ap (λ (x : Answer). x.number) (gives_answer (length old))

    pub refused_writes : (w.answer.number ≡ 0 → ⊥) → old ≡ write_bytes sh hs ns old
    unfolding write_bytes
    refused_writes n = rw (← same, ne_eqb _ _ n)

    module _ (z : w.answer.number ≡ 0) where
      pub gives_length : w.length ≡ length (encode sh hs ns)
      unfolding write_of
      gives_length = ap (λ (x : Written). x.length) e ∙ rw (eq-eqb _ _ (sym same ∙ z))

      pub gives_writable : Writable sh hs ns (length old)
      gives_writable = let (a, g, l) = write_accepts (length old) (sym same ∙ z) in writable (length old) refl g refl l

      pub accepted_writes : {out : List ℕ} → out ≡ on_front (encode sh hs ns) old → out ≡ write_bytes sh hs ns old
      unfolding write_bytes
      accepted_writes f = f ∙ rw (← same, eq-eqb _ _ z)
