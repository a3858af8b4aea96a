-- The loop of `audit_faults::images::put_images`: the elements below i are filled. Assumes nothing.
use Rattle.std.proofs.Common.{◌≡◌, ℕ, ◌<◌, length, get_or}
use Rattle.graph.specs.Answers.{most_hops}
use Rattle.audit_faults.specs.Internal.Images.{image_of}
use Rattle.audit_faults.proofs.images.put_images.Given as goal

abbrev pub invariant-loop-i : goal.invariant-loop-i
invariant-loop-i l = record {
  whole : length l.images ≡ most_hops;
  filled : (j : ℕ) → j < l.i → get_or l.images j 0 ≡ image_of l.mapped.hops1.now l.mapped.hops2.now l.mapped.map.now j;
}
