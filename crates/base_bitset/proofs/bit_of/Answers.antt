-- `base_bitset::bit_of` meets its contract: the one bit stays below 64. Assumes nothing.
use Prim.Native.Nat.{ℕ, ◌%◌, ◌^◌}
use mathlib.Core.Path.{ap, ◌∙◌}
use native.Mathlib.Nat.{one-mul, mod-eq_of_lt}
use lib.Pow.{pow-lt}
use Rattle.base_bitset.proofs.bit_of.Goals as goal

pub returns : goal.returns
returns c = ap (λ (n : ℕ). n % 2 ^ 64) (one-mul (2 ^ c.args.b)) ∙ mod-eq_of_lt (pow-lt c.requires)
