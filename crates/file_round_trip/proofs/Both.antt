-- The two round trips over the entries. What reading accepts writing accepts too, and the other way
-- round; the answers and the outputs are then those of the definitions. Assumes nothing.
use Prim.Native.Nat.{ℕ, ◌+◌, ◌-◌, ◌<◌, ◌≤◌}
use mathlib.Core.Path.{◌≡◌, refl, sym, ap, ◌∙◌}
use mathlib.Core.Bool.{true}
use mathlib.Core.List.{List}
use mathlib.Core.Logic.{⊎_elim}
use native.Mathlib.Omega.{arith}
use borrow.Author.Tests.{eq-eqb, ne_eqb, le-leb, lt-leb}
use lib.ListN.{length, get_or, take, drop, get_or-append}
use lib.Seq.{take_at}
use Rattle.graph.specs.Hops.{number_place}
use Rattle.graph.specs.Answers.{most_numbers, accepted, refused, capacity_answer}
use Rattle.graph_check.specs.Check.{Admitted}
use Rattle.graph.specs.declared.Shape.{Shape}
use Rattle.graph.specs.declared.Answer.{Answer}
use Rattle.base_bounded.proofs.Bools.{decided}
use Rattle.graph_check.proofs.Checked.{check_admitted, admitted_check}
use Rattle.graph.proofs.Accepts.{both_accept, capacity_accepts}
use Rattle.file_names.specs.Block.{name_at, first_bad}
use Rattle.file_names.proofs.Blocks.{name_later}
use Rattle.file_names.proofs.Fronts.{name_same, first_bad_same}
use Rattle.base_outputs.specs.Output.{on_front}
use Rattle.file_fields.specs.Format.{has_names, labels_in, hops_in, names_in, rest_of, lines_place, needed_length, shape_in, hop_list_in, block_place, block_length, block_in}
use Rattle.file_read.specs.Read.{read_answer, refused_contents, contents_of, read_of, read_hops}
use Rattle.file_encode.specs.Encode.{encode}
use Rattle.file_write.specs.Write.{block_answer, names_given, given_answer, write_answer, refused_written, write_of, write_bytes}
use Rattle.file_round_trip.specs.RoundTrip.{copy_answer, copy_of, copy_bytes, back_answer, back_of, back_bytes, back_hops, ReadBack}
use Rattle.file_read.specs.declared.Contents.{Contents}
use Rattle.file_write.specs.declared.Written.{Written}
use Rattle.file_fields.proofs.Laws.{names_before_lines, names_on, names_off}
use Rattle.file_read.proofs.Entry as read
use Rattle.file_read.proofs.Entry.{hops_part, graph_accepts, hops_most, accepted_sound}
use Rattle.file_write.proofs.Given as write
use Rattle.file_write.proofs.Given.{block_good}
use Rattle.file_format.proofs.Sound.{Sound}
use Rattle.file_numbers.specs.Numbers.{Bytes}
use Rattle.file_round_trip.proofs.Again.{block_again, block_ends, block_some, block_none, decode_encode}
use Rattle.file_round_trip.proofs.Back.{encode_decode}

-- what the entries' results say of their answers
module _ (b : List ℕ) (capacity : ℕ) {c : Contents} (e : c ≡ read_of b capacity) where
  pub found_answer : c.answer ≡ read_answer b capacity
  found_answer = ap (λ (x : Contents). x.answer) e ∙ read.gives_answer b capacity

  pub found_accepted : c.answer.number ≡ 0 → ((read_answer b capacity).number ≡ 0) × (c ≡ contents_of b)
  unfolding read_of
  found_accepted z =
      let y : (read_answer b capacity).number ≡ 0 = ap (λ (x : Answer). x.number) (sym found_answer) ∙ z in
      (y, e ∙ rw (eq-eqb (read_answer b capacity).number 0 y))

module _ (sh : Shape) (hs ns : List ℕ) (capacity : ℕ) {w : Written} (e : w ≡ write_of sh hs ns capacity) where
  pub put_answer : w.answer ≡ write_answer sh hs ns capacity
  put_answer = ap (λ (x : Written). x.answer) e ∙ write.gives_answer sh hs ns capacity

  pub put_accepted : w.answer.number ≡ 0 → ((write_answer sh hs ns capacity).number ≡ 0) × (w.length ≡ length (encode sh hs ns))
  unfolding write_of
  put_accepted z =
      let y : (write_answer sh hs ns capacity).number ≡ 0 = ap (λ (x : Answer). x.number) (sym put_answer) ∙ z in
      (y, ap (λ (x : Written). x.length) e ∙ rw (eq-eqb (write_answer sh hs ns capacity).number 0 y))

-- a file that reading accepts
module _ (b : List ℕ) (capacity : ℕ) (small : Bytes b) (z : (read_answer b capacity).number ≡ 0) where
  sound : Sound b
  sound = accepted_sound b capacity z

  admitted_again : Admitted (shape_in b) (hop_list_in b)
  admitted_again = check_admitted (shape_in b) (hop_list_in b) (graph_accepts b capacity z)

  pub hops_again_most : number_place (hops_in b) ≤ most_numbers
  hops_again_most = omega (arith, hops_most b capacity z)

  pub block_within : block_place b + block_length b ≤ length b
  unfolding needed_length
  block_within =
      ⊎_elim (λ e. let (n, p, l) = names_on b e in omega (arith, names_before_lines b, sound.exact)) (λ e. let (n, p, l) = names_off b e in omega arith) (decided (has_names b))

  -- the block's names are those of the file, without the lines that follow
  same_names : (i : ℕ) → i < length (block_in b) → get_or (rest_of b) i 0 ≡ get_or (block_in b) i 0
  same_names i l = rw (block_again b small sound) (get_or-append (block_in b) (drop (lines_place b) b) 0 i l)

  block_accepted : has_names b ≡ true → block_answer (block_in b) (labels_in b - 1) ≡ accepted
  block_accepted e =
      rw (← (names_on b e).0)
      (sym (block_good (block_in b) (names_in b) refl (omega (arith, ends)) (omega (arith, ends)) refl
      (omega (arith, name_later (block_in b) {j = names_in b} {k = first_bad (block_in b) (names_in b)} (rw (← first_bad_same (rest_of b) (block_in b) same_names (names_in b) within) sound.clean))))) where
        within : name_at (rest_of b) (names_in b) ≤ length (block_in b)
        within = omega (arith, block_ends b small sound)

        ends : name_at (block_in b) (names_in b) ≡ length (block_in b)
        ends = sym (name_same (rest_of b) (block_in b) same_names (names_in b) within) ∙ block_ends b small sound

  names_accepted : names_given (shape_in b) (block_in b) ≡ accepted
  unfolding names_given shape_in
  names_accepted =
      ⊎_elim (λ e. rw (ne_eqb (length (block_in b)) 0 (λ y. omega (arith, block_some b small sound e))) (block_accepted e))
      (λ e. rw (eq-eqb (length (block_in b)) 0 (block_none b small sound e))) (decided (has_names b))

  pub graph_accepted : given_answer (shape_in b) (hop_list_in b) (block_in b) ≡ accepted
  unfolding given_answer
  graph_accepted = rw (admitted_check (shape_in b) (hop_list_in b) admitted_again) names_accepted

-- the ways out of reading and writing again
module _ (b old : List ℕ) where
  copy_speaks : {a : Answer} → a ≡ read_answer b most_numbers → (a.number ≡ 0 → ⊥) → copy_answer b (length old) ≡ a
  unfolding copy_answer
  copy_speaks e n = rw (← e, ne_eqb _ _ n)

  pub copy_refused : {a : Answer} → a ≡ read_answer b most_numbers → (a.number ≡ 0 → ⊥) → (refused_written a ≡ copy_of b (length old)) × (old ≡ copy_bytes b old)
  unfolding copy_of copy_bytes
  copy_refused e n = (rw (copy_speaks e n, ne_eqb _ _ n), rw (copy_speaks e n, ne_eqb _ _ n))

  module _ (small : Bytes b) (z : (read_answer b most_numbers).number ≡ 0) where
    encoded : encode (shape_in b) (hop_list_in b) (block_in b) ≡ b
    encoded = decode_encode b most_numbers small z

    copy_answer_lem : write_answer (shape_in b) (hop_list_in b) (block_in b) (length old) ≡ copy_answer b (length old)
    unfolding write_answer copy_answer
    copy_answer_lem = rw (graph_accepted b most_numbers small z, encoded, eq-eqb _ _ z)

    pub copy_accepted : (write_of (shape_in b) (hop_list_in b) (block_in b) (length old) ≡ copy_of b (length old)) ×
        (write_bytes (shape_in b) (hop_list_in b) (block_in b) old ≡ copy_bytes b old)
    unfolding write_of write_bytes copy_of copy_bytes
    copy_accepted = (rw (copy_answer_lem, encoded), rw (copy_answer_lem, encoded))

-- what was read, as it is handed on to be written
module _ (b before : List ℕ) (small : Bytes b) (l : length before ≡ most_numbers) {c : Contents} (e : c ≡ read_of b (length before)) where
  pub copy_unread : (old : List ℕ) → (c.answer.number ≡ 0 → ⊥) → (refused_written c.answer ≡ copy_of b (length old)) × (old ≡ copy_bytes b old)
  copy_unread old n = copy_refused b old (found_answer b most_numbers (e ∙ ap (read_of b) l)) n

  module _ (y : c.answer.number ≡ 0) where
    found : ((read_answer b most_numbers).number ≡ 0) × (c ≡ contents_of b)
    found = found_accepted b most_numbers (e ∙ ap (read_of b) l) y

    pub found_hops : number_place c.hops ≤ most_numbers
    found_hops = omega (arith, hops_again_most b most_numbers small found.0, ap (λ (x : Contents). x.hops) found.1)

    pub found_block : c.names_place + c.names_len ≤ length b
    found_block =
        omega (arith, block_within b most_numbers small found.0, ap (λ (x : Contents). x.names_place) found.1, ap (λ (x : Contents). x.names_len) found.1)

    hops_there : {hops : List ℕ} → hops ≡ read_hops b before → hops ≡ on_front (hop_list_in b) before
    unfolding read_hops
    hops_there h = h ∙ rw (eq-eqb (read_answer b (length before)).number 0 (ap (λ (n : ℕ). (read_answer b n).number) l ∙ found.0))

    block_part : take (c.names_place + c.names_len - c.names_place) (drop c.names_place b) ≡ block_in b
    unfolding block_in
    block_part = ap (λ (n : ℕ). take n (drop c.names_place b)) size ∙ ap (λ (n : ℕ). take (block_length b) (drop n b)) (ap (λ (x : Contents). x.names_place) found.1) where
      size : c.names_place + c.names_len - c.names_place ≡ block_length b
      size = omega (arith, ap (λ (x : Contents). x.names_len) found.1)

    pub copy_gives : {hops : List ℕ} (old : List ℕ) {r : Written} {out : List ℕ} {n : ℕ} → hops ≡ read_hops b before → n ≡ number_place c.hops →
        r ≡ write_of c.shape (take n hops) (take (c.names_place + c.names_len - c.names_place) (drop c.names_place b)) (length old) →
        out ≡ write_bytes c.shape (take n hops) (take (c.names_place + c.names_len - c.names_place) (drop c.names_place b)) old →
        (r ≡ copy_of b (length old)) × (out ≡ copy_bytes b old)
    copy_gives old {n = n} h m p q =
        let g = copy_accepted b old small found.0 in
        (p ∙ same_three (λ (s : Shape) (hs ns : List ℕ). write_of s hs ns (length old)) h ∙ g.0, q ∙ same_three (λ (s : Shape) (hs ns : List ℕ). write_bytes s hs ns old) h ∙ g.1) where
          same_three : {A : Type 0} (f : Shape → List ℕ → List ℕ → A) {hops : List ℕ} → hops ≡ read_hops b before →
              f c.shape (take n hops) (take (c.names_place + c.names_len - c.names_place) (drop c.names_place b)) ≡
              f (shape_in b) (hop_list_in b) (block_in b)
          same_three f {hops} h = rw (hops_part b hops before (hops_there h) (m ∙ ap (λ (x : Contents). number_place x.hops) found.1), block_part) (ap (λ (x : Contents). f x.shape (hop_list_in b) (block_in b)) found.1)

-- the ways out of writing and reading again
module _ (sh : Shape) (hs ns file again : List ℕ) where
  pub back_refused : {a : Answer} → a ≡ back_answer sh hs ns (length file) (length again) → (a.number ≡ 0 → ⊥) →
      (refused_contents a ≡ back_of sh hs ns (length file) (length again)) × (file ≡ back_bytes sh hs ns file (length again)) × (again ≡ back_hops sh hs ns (length file) again)
  unfolding back_of back_bytes back_hops
  back_refused e n = (rw (← e, ne_eqb _ _ n), rw (← e, ne_eqb _ _ n), rw (← e, ne_eqb _ _ n))

  module _ {a : Answer} (e : a ≡ given_answer sh hs ns) where
    pub back_graph : (a.number ≡ 0 → ⊥) → a ≡ back_answer sh hs ns (length file) (length again)
    unfolding back_answer
    back_graph n = rw (← e, ne_eqb _ _ n)

    module _ (z : a.number ≡ 0) where
      pub back_capacity : length again < length hs → refused 6 0 ≡ back_answer sh hs ns (length file) (length again)
      unfolding back_answer
      back_capacity l = rw (← e, eq-eqb _ _ z, lt-leb _ _ l)

      module _ (l : length hs ≤ length again) where
        back_write : write_answer sh hs ns (length file) ≡ back_answer sh hs ns (length file) (length again)
        unfolding write_answer back_answer
        back_write = rw (← e, eq-eqb _ _ z, le-leb _ _ l)

        -- the write is refused
        pub back_unwritten : {w : Written} {file' : List ℕ} → w ≡ write_of sh hs ns (length file) → file' ≡ write_bytes sh hs ns file → (w.answer.number ≡ 0 → ⊥) →
            (w.answer ≡ back_answer sh hs ns (length file) (length again)) × (file' ≡ file)
        unfolding write_bytes
        back_unwritten d f n =
            let q = put_answer sh hs ns (length file) d in
            (q ∙ back_write, f ∙ rw (← q, ne_eqb _ _ n))

        -- the write is accepted, and the read after it
        module _ (y : (write_answer sh hs ns (length file)).number ≡ 0) where
          back_zero : (back_answer sh hs ns (length file) (length again)).number ≡ 0
          back_zero = ap (λ (x : Answer). x.number) (sym back_write) ∙ y

          same : ReadBack sh hs ns (encode sh hs ns) (length again)
          same = encode_decode sh hs ns (length again) (ap (λ (x : Answer). x.number) (sym e) ∙ z) l

          part_again : {n : ℕ} {file' : List ℕ} → n ≡ length (encode sh hs ns) → file' ≡ write_bytes sh hs ns file → take n file' ≡ encode sh hs ns
          unfolding write_bytes
          part_again {n} d f =
              rw (f, eq-eqb _ _ y) (take_at (encode sh hs ns) (drop (length (encode sh hs ns)) file) n (omega (arith, d)))

          back_accepted : {file' : List ℕ} → file' ≡ write_bytes sh hs ns file →
              (read_of (encode sh hs ns) (length again) ≡ back_of sh hs ns (length file) (length again)) ×
              (file' ≡ back_bytes sh hs ns file (length again)) × (read_hops (encode sh hs ns) again ≡ back_hops sh hs ns (length file) again)
          unfolding read_of read_hops write_bytes back_of back_bytes back_hops
          back_accepted f =
              (rw (same.accepts, eq-eqb _ _ back_zero) same.same_contents, f ∙ rw (eq-eqb _ _ y, eq-eqb _ _ back_zero), rw (same.accepts, eq-eqb _ _ back_zero, same.same_hops))

          pub written_capacity : length (encode sh hs ns) ≤ length file
          unfolding write_answer
          written_capacity =
              (capacity_accepts (length (encode sh hs ns)) (length file)
              (both_accept (given_answer sh hs ns) (capacity_answer (length (encode sh hs ns)) (length file)) y).1).1

          pub back_gives : {n : ℕ} {file' again' : List ℕ} {r : Contents} → n ≡ length (encode sh hs ns) → file' ≡ write_bytes sh hs ns file →
              r ≡ read_of (take n file') (length again) → again' ≡ read_hops (take n file') again →
              (r ≡ back_of sh hs ns (length file) (length again)) × (file' ≡ back_bytes sh hs ns file (length again)) × (again' ≡ back_hops sh hs ns (length file) again)
          back_gives d f p q =
              let (contents, bytes, hops) = back_accepted f in
              (p ∙ ap (λ (x : List ℕ). read_of x (length again)) (part_again d f) ∙ contents, bytes, q ∙ ap (λ (x : List ℕ). read_hops x again) (part_again d f) ∙ hops)
