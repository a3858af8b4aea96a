-- The answer is that of the result of `find`. Assumes nothing.
use Rattle.graph_find.specs.Find.{find_of}
use Rattle.c_find.proofs.find_into.Goals as goal

pub returns-clause-returns : goal.returns-clause-returns
unfolding find_of
returns-clause-returns c = rw (c.from-finding.ensures, c.find.ensures) at c.put_finding.ensures.returns
