-- What was written is read, and it is the graph that was given. Assumes nothing.
use Rattle.std.proofs.Common.{refl, sym, ◌∙◌}
use Rattle.std.proofs.lemmas.Result.{err_from_is_err_and}
use native.Mathlib.Omega.{arith}
use lib.Seq.{length-take-le}
use Rattle.graph.proofs.Accepts.{refusal_ne0}
use Rattle.file_round_trip.proofs.Both.{put_accepted, back_refused, back_graph, back_capacity, back_unwritten, written_capacity, back_gives}
use Rattle.file_round_trip.proofs.round_trip.graph_back.Goals as goal

pub returns-in_err-check_given : goal.returns-in_err-check_given
returns-in_err-check_given c =
    let p = err_from_is_err_and c.from_residual.result c.from_residual.ensures.1 in
    let (answers, file, hops) = back_refused _ _ _ c.args.file.now c.args.again.now (back_graph _ _ _ _ _ c.in_err-check_given.ensures (refusal_ne0 _)) (refusal_ne0 _) in
    record { answers = rw (p.1, p.2) answers; file = file; hops = hops }

pub returns-then-again-hops : goal.returns-then-again-hops
returns-then-again-hops c =
    let (answers, file, hops) = back_refused _ _ _ c.args.file.now c.args.again.now (back_capacity _ _ _ _ _ c.in_ok-check_given.ensures refl c.if-again-hops.true) (λ z. omega arith) in
    record { answers = answers; file = file; hops = hops }

pub returns-in_err-length : goal.returns-in_err-length
returns-in_err-length c =
    let p = err_from_is_err_and c.from_residual-in_err-length.result c.from_residual-in_err-length.ensures.1 in
    let (speaks, same) = back_unwritten _ _ _ _ c.args.again.now c.in_ok-check_given.ensures refl c.if-again-hops.false c.in_err-length.ensures.answers
    c.in_err-length.ensures.writes (refusal_ne0 _) in
    let (answers, file, hops) = back_refused _ _ _ c.args.file.now c.args.again.now speaks (refusal_ne0 _) in
    record { answers = rw (p.1, p.2) answers; file = same ∙ file; hops = hops }

pub slice_bounds-read-end : goal.slice_bounds-read-end
slice_bounds-read-end c =
    let (y, n) = put_accepted _ _ _ _ c.in_ok-length.ensures.answers refl in
    omega (arith, n, written_capacity _ _ _ c.args.file.now c.args.again.now c.in_ok-check_given.ensures refl c.if-again-hops.false y)

pub slice_bounds-read-end-2 : goal.slice_bounds-read-end-2
slice_bounds-read-end-2 c =
    let (y, n) = put_accepted _ _ _ _ c.in_ok-length.ensures.answers refl in
    sym (length-take-le _ _
    (omega (arith, n, written_capacity _ _ _ c.args.file.now c.args.again.now c.in_ok-check_given.ensures refl c.if-again-hops.false y)))

pub returns : goal.returns
returns c =
    let (y, n) = put_accepted _ _ _ _ c.in_ok-length.ensures.answers refl in
    let (answers, file, hops) = back_gives _ _ _ c.args.file.now c.args.again.now c.in_ok-check_given.ensures refl c.if-again-hops.false y n c.in_ok-length.ensures.writes
    c.read.ensures.answers c.read.ensures.writes in
    record { answers = answers; file = file; hops = hops }
