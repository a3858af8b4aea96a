-- `file_encode::put_file`: five parts, one after the other; the file goes on behind the names where
-- there are lines. Assumes nothing.
use mathlib.Core.Path.{refl, ap}
use Prim.Native.Nat.{ℕ, ◌+◌}
use Rattle.file_fields.specs.Format.{initial_place}
use Rattle.file_encode.proofs.Encoded.{lines_behind, file_put}
use Rattle.file_encode.proofs.put_file.Goals as goal

pub bits_of-bits-requires : goal.bits_of-bits-requires
bits_of-bits-requires c =
    lines_behind c.args.shape c.args.hops.now c.args.names.now (ap (λ (n : ℕ). initial_place + n) c.initial_length-hops_at.ensures)
    (ap (λ (n : ℕ). initial_place + c.initial_length-hops_at.result + n) c.hops_length.ensures) refl c.requires.size

pub put_lines_of-requires-clause-lined : goal.put_lines_of-requires-clause-lined
put_lines_of-requires-clause-lined c =
    lines_behind c.args.shape c.args.hops.now c.args.names.now (ap (λ (n : ℕ). initial_place + n) c.initial_length-hops_at.ensures)
    (ap (λ (n : ℕ). initial_place + c.initial_length-hops_at.result + n) c.hops_length.ensures) refl c.requires.size

pub returns : goal.returns
returns c =
    file_put c.args.shape c.args.hops.now c.args.names.now (ap (λ (n : ℕ). initial_place + n) c.initial_length-hops_at.ensures)
    (ap (λ (n : ℕ). initial_place + c.initial_length-hops_at.result + n) c.hops_length.ensures) refl c.args.out.now c.bits_of-bits.ensures c.put_head.ensures
    c.put_initial.ensures c.put_hops.ensures c.put_names.ensures c.put_lines_of.ensures
