-- What was read is written, and its bytes are those of the file. Assumes nothing.
use Rattle.std.proofs.Common.{◌≡◌, refl, sym, ℕ, List, length}
use Rattle.std.proofs.lemmas.Result.{err_from_is_err_and}
use native.Mathlib.Omega.{arith}
use lib.ListN.{replicate, length-replicate}
use lib.Seq.{length-take-le}
use Rattle.graph.specs.Answers.{most_numbers}
use Rattle.graph.proofs.Accepts.{refusal_ne0}
use Rattle.file_round_trip.proofs.Both.{copy_unread, found_hops, found_block, copy_gives}
use Rattle.file_round_trip.proofs.round_trip.copy_file.Goals as goal

-- the local copy of the hops, before anything is read into it
abbrev local : List ℕ
local = replicate most_numbers 0

local-length : length local ≡ most_numbers
local-length = length-replicate {A = ℕ} most_numbers 0

pub returns-in_err-found : goal.returns-in_err-found
returns-in_err-found c =
    let p = err_from_is_err_and c.from_residual.result c.from_residual.ensures.1 in
    let (answers, writes) = copy_unread _ local (λ i. (c.type_inv.file i).fits) local-length c.in_err-found.ensures.answers c.args.out.now (refusal_ne0 _) in
    record { answers = rw (p.1, p.2) answers; writes = writes }

pub number_place-n-requires : goal.number_place-n-requires
number_place-n-requires c =
    omega (arith, found_hops _ local (λ i. (c.type_inv.file i).fits) local-length c.in_ok-found.ensures.answers refl)

pub overflow_add-end : goal.overflow_add-end
overflow_add-end c =
    omega (arith, found_block _ local (λ i. (c.type_inv.file i).fits) local-length c.in_ok-found.ensures.answers refl)

pub slice_bounds-hops-end : goal.slice_bounds-hops-end
slice_bounds-hops-end c =
    omega (
      arith,
      found_hops _ local (λ i. (c.type_inv.file i).fits) local-length c.in_ok-found.ensures.answers refl,
      c.number_place-n.ensures,
    )

pub slice_bounds-write-end : goal.slice_bounds-write-end
slice_bounds-write-end c =
    sym (length-take-le _ _ (omega (
      arith,
      found_hops _ local (λ i. (c.type_inv.file i).fits) local-length c.in_ok-found.ensures.answers refl,
      c.number_place-n.ensures,
    )))

pub slice_bounds-write-end-2 : goal.slice_bounds-write-end-2
slice_bounds-write-end-2 c =
    omega (arith, found_block _ local (λ i. (c.type_inv.file i).fits) local-length c.in_ok-found.ensures.answers refl)

pub returns : goal.returns
returns c =
    let (answers, writes) = copy_gives _ local (λ i. (c.type_inv.file i).fits) local-length c.in_ok-found.ensures.answers refl c.args.out.now
    c.in_ok-found.ensures.writes c.number_place-n.ensures c.write.ensures.answers c.write.ensures.writes in
    record { answers = answers; writes = writes }
