-- `shrink_entry::shrink` meets its contract: a refusal writes nothing. That acceptance is what the
-- repetition requires, and what it leaves, is found by the laws that the function names: so a wrong
-- way to go on is refused for what it does, whatever its steps are called. Assumes nothing.
use Rattle.std.proofs.lemmas.Result.{err_from_is_err_and}
use Rattle.graph.proofs.Accepts.{refusal_ne0}
use Rattle.shrink_entry.proofs.Answering.{refused_returns, refused_map, refused_short}
use Rattle.shrink_entry.proofs.shrink.Goals as goal

pub returns-in_err-sense : goal.returns-in_err-sense
returns-in_err-sense c =
    let a = c.args in
    let n = refusal_ne0 _ in
    let d = c.in_err-sense.ensures.answers in
    let p = err_from_is_err_and c.from_residual.result c.from_residual.ensures.1 in
    record {
      returned = rw (p.1, p.2) (refused_returns _ _ _ a.map.now a.short.now d n);
      mapped = refused_map _ _ _ a.map.now a.short.now d n;
      shortened = refused_short _ _ _ a.map.now a.short.now d n;
    }
