-- `base_bitset::holds` meets its contract: the intersection of a word with the other is the other
-- exactly when the word has its bits. Assumes nothing.
use Rattle.base_bitset.proofs.Laws.{cut_holds}
use Rattle.base_bitset.proofs.holds.Goals as goal

pub returns : goal.returns
returns c = cut_holds 64 c.args.word c.args.other c.ranges.word.fits c.ranges.other.fits
