-- X, Y and Z leave by the ways of `Equations.antt`; what they write into the table is right.
use Rattle.std.proofs.Common.{◌≡◌, ◌∙◌, true, false, not, sym, ap, arith, true-eqb, false-eqb}
use borrow.Author.Tests.{ne_eqb}
use Rattle.graph.specs.Hops.{from}
use Rattle.graph.specs.Search.{first_of, past_of}
use Rattle.graph_successors.proofs.Rows.{labelled_within}
use Rattle.mark_confluence.proofs.Closing.{closing_same}
use Rattle.mark_equations.proofs.Table.{says_read, write_entry}
use Rattle.mark_equations.proofs.Equations.{closes_all, closes_not, answered_hop, answered_last, answered_no, found_silent, closing_at, closing_none, no_round, one_round}
use Rattle.mark_equations.proofs.+x_y_z.Goals as goal

pub x-returns-then-k-eq0-clause-answers : goal.x-returns-then-k-eq0-clause-answers
x-returns-then-k-eq0-clause-answers g t c = no_round _ _ _ c.requires.place c.requires.silent c.if-k-eq0.true

pub x-returns-in-Falls-clause-answers : goal.x-returns-in-Falls-clause-answers
x-returns-in-Falls-clause-answers g t c =
    says_read g.M.Memo.nothing g.M.Memo.entry_for _ _ c.requires.prepared.right c.args.k c.args.i false (omega (arith, c.args.index.ready.hops_most))
    g.M.Memo.says g.met.M.Memo.told (omega (arith, c.requires.prepared.capacity, c.args.index.ready.hops_most)) c.index-known-at.is (sym c.known.ensures ∙ c.in-Falls.is)

pub x-returns-in-Survives-clause-answers : goal.x-returns-in-Survives-clause-answers
x-returns-in-Survives-clause-answers g t c =
    says_read g.M.Memo.nothing g.M.Memo.entry_for _ _ c.requires.prepared.right c.args.k c.args.i true (omega (arith, c.args.index.ready.hops_most))
    g.M.Memo.says g.met.M.Memo.told (omega (arith, c.requires.prepared.capacity, c.args.index.ready.hops_most)) c.index-known-at.is (sym c.known.ensures ∙ c.in-Survives.is)

pub x-returns-then-not-y-clause-answers : goal.x-returns-then-not-y-clause-answers
unfolding past_of
x-returns-then-not-y-clause-answers g t c =
    let hs = c.args.index.hops.now in
    let e : c.first-j.result ≡ first_of hs (from hs c.args.i) = rw c.from_at-s1.ensures at c.first-j.ensures in
    let p : c.past-j-end.result ≡ past_of hs (from hs c.args.i) = rw c.from_at-s1.ensures at c.past-j-end.ensures.is_next in
    one_round _ _ _ c.requires.place c.requires.silent c.if-k-eq0.false c.to_at-s2.ensures
    (closes_not _ c.args.index.ready.ascending _ _ _ p c.loop-j-test.true (omega arith) c.y.ensures.answers (ap not c.if-not-y.true))

pub x-returns-then-not-y-clause-keeps : goal.x-returns-then-not-y-clause-keeps
x-returns-then-not-y-clause-keeps g t c =
    write_entry g.M.Memo.nothing g.M.Memo.entry_for _ _ c.y.ensures.keeps c.args.k c.args.i false (omega (arith, c.args.index.ready.hops_most))
    g.M.Memo.says g.met.M.Memo.tells c.of.ensures (omega arith) (x-returns-then-not-y-clause-answers g t c)

pub x-returns-clause-answers : goal.x-returns-clause-answers
unfolding past_of
x-returns-clause-answers g t c =
    let hs = c.args.index.hops.now in
    let p : c.past-j-end.result ≡ past_of hs (from hs c.args.i) = rw c.from_at-s1.ensures at c.past-j-end.ensures.is_next in
    one_round _ _ _ c.requires.place c.requires.silent c.if-k-eq0.false c.to_at-s2.ensures
    (closes_all _ c.args.index.ready.ascending _ _ _ p c.loop-j-test.false c.loop-j.invariant.all_answered)

pub x-returns-clause-keeps : goal.x-returns-clause-keeps
x-returns-clause-keeps g t c =
    write_entry g.M.Memo.nothing g.M.Memo.entry_for _ _ c.loop-j.invariant.right c.args.k c.args.i true (omega (arith, c.args.index.ready.hops_most))
    g.M.Memo.says g.met.M.Memo.tells c.of-2.ensures (omega arith) (x-returns-clause-answers g t c)

pub y-to_at-s4-requires : goal.y-to_at-s4-requires
y-to_at-s4-requires g t c =
    omega (arith, labelled_within c.args.index.hops.now c.args.index.ready.ascending c.args.s2.0 c.label_at-a.result.0)

pub y-returns-then-z-clause-answers : goal.y-returns-then-z-clause-answers
y-returns-then-z-clause-answers g t c =
    answered_hop _ c.args.index.ready.ascending _ _ _ c.label_at-a.ensures c.to_at-s3.ensures c.past_labelled-j-end.ensures
    c.loop-j-test.true (omega arith) c.to_at-s4.ensures c.z.ensures.answers c.if-z.true

pub y-returns-then-a-eq0-clause-answers : goal.y-returns-then-a-eq0-clause-answers
y-returns-then-a-eq0-clause-answers g t c =
    answered_last _ c.args.index.ready.ascending _ _ _ c.label_at-a.ensures c.to_at-s3.ensures c.past_labelled-j-end.ensures
    c.loop-j-test.false c.loop-j.invariant.none_closes c.if-a-eq0.true c.z-then-a-eq0.ensures.answers

pub y-returns-else-a-eq0-clause-answers : goal.y-returns-else-a-eq0-clause-answers
y-returns-else-a-eq0-clause-answers g t c =
    rw (ne_eqb _ _ c.if-a-eq0.false) (answered_no _ c.args.index.ready.ascending _ _ _ c.label_at-a.ensures c.to_at-s3.ensures
    c.past_labelled-j-end.ensures c.loop-j-test.false c.loop-j.invariant.none_closes c.if-a-eq0.false)

pub z-returns-then-eq-clause-answers : goal.z-returns-then-eq-clause-answers
z-returns-then-eq-clause-answers g t c = sym (closing_same _ _ _ (true-eqb _ _ c.if-eq.ensures))

pub z-x-requires : goal.z-x-requires
z-x-requires g t c =
    let (l, e) = found_silent _ _ _ c.hop_of.ensures c.find.ensures c.in-Ok.is in
    λ κs o. (omega arith, (o, (l, (e, c.requires.prepared))))

pub z-returns-in-Ok-clause-answers : goal.z-returns-in-Ok-clause-answers
z-returns-in-Ok-clause-answers g t c =
    closing_at _ _ _ c.hop_of.ensures c.find.ensures _ (false-eqb _ _ c.if-eq.ensures) c.in-Ok.is c.x.ensures.answers

pub z-returns-in-Err-clause-answers : goal.z-returns-in-Err-clause-answers
z-returns-in-Err-clause-answers g t c =
    closing_none _ _ _ c.hop_of.ensures c.find.ensures _ (false-eqb _ _ c.if-eq.ensures) c.args.index.ready.ascending c.in-Err.is
