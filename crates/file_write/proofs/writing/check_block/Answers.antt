-- Each way out is a case of the definition. Assumes nothing.
use native.Mathlib.Omega.{arith}
use Rattle.file_write.proofs.Given.{block_early, block_left, block_searchable, block_bad, block_good}
use Rattle.file_write.proofs.writing.check_block.Goals as goal

pub returns-then-names-end : goal.returns-then-names-end
returns-then-names-end c = block_early _ _ c.end_of-end.ensures c.if-names-end.true

pub returns-then-end-names : goal.returns-then-end-names
returns-then-end-names c = block_left _ _ c.end_of-end.ensures (omega arith) c.if-end-names.true

pub first_bad-bad-requires : goal.first_bad-bad-requires
first_bad-bad-requires c = block_searchable _ _ c.end_of-end.ensures (omega arith) (omega (arith, c.requires))

pub returns-then-bad-end : goal.returns-then-bad-end
returns-then-bad-end c = block_bad _ _ c.end_of-end.ensures (omega arith) (omega arith) c.first_bad-bad.ensures c.if-bad-end.true

pub returns : goal.returns
returns c = block_good _ _ c.end_of-end.ensures (omega arith) (omega arith) c.first_bad-bad.ensures c.if-bad-end.false
