-- The two words that are read are those of the hop's ends. Assumes nothing.
use Rattle.std.proofs.Common.{◌≡◌, ap, ◌∙◌}
use Rattle.graph.specs.Hops.{from, to}
use Rattle.graph.specs.declared.Hop.{Hop}
use Rattle.base_bitset.specs.Internal.Bits.{bit_in}
use Rattle.mark_batch_filter.specs.Internal.Filtered.{fits}
use Rattle.mark_batch_filter.proofs.fits_at.Goals as goal

pub returns : goal.returns
unfolding fits bit_in
returns c =
    let end : c.from.result ≡ to c.args.hops.now c.args.i = c.from.ensures ∙ ap (λ (h : Hop). h.to) c.hop_at-h.ensures in
    let begin : c.from-2.result ≡ from c.args.hops.now c.args.i = c.from-2.ensures ∙ ap (λ (h : Hop). h.from) c.hop_at-h.ensures in
    rw (← end, ← begin) c.holds.ensures
