-- Where the part of a state's hops stands, by start and length: the ways out of the code, and that
-- the part returned is the one that stands there. Assumes nothing.
use Prim.Native.Nat.{ℕ, ◌-◌}
use mathlib.Core.Path.{◌≡◌, refl}
use mathlib.Core.Bool.{Bool, true, false, cond}
use mathlib.Core.List.{List}
use native.Mathlib.Omega.{arith}
use borrow.Author.Tests.{eqb-true}
use lib.ListN.{take, drop}
use lib.Dec.{eqb}
use Rattle.graph.specs.Hops.{number_place}
use Rattle.graph.specs.Search.{first_of, past_of}
use Rattle.graph_hops_of.specs.declared.Span.{Span}
use Rattle.graph_hops_of.specs.HopsOf.{outgoing, no_span, span_in}

-- a part from one place up to another
abbrev span : ℕ → ℕ → Span
span first past = record { start = number_place first; length = number_place past - number_place first }

module _ (hs : List ℕ) (s : ℕ) where
  abbrev Shows : Bool → Type 0
  Shows x =
      outgoing hs s ≡
      take (cond x no_span (span (first_of hs s) (past_of hs s))).length (drop (cond x no_span (span (first_of hs s) (past_of hs s))).start hs)

  -- the outgoing hops are as many numbers of the table as the length says, from the start on
  pub span_hops : outgoing hs s ≡ take (span_in hs s).length (drop (span_in hs s).start hs)
  unfolding span_in
  span_hops = go (eqb (first_of hs s) (past_of hs s)) refl where
    none : (n : ℕ) → n - n ≡ 0
    none n = omega arith

    go : (x : Bool) → eqb (first_of hs s) (past_of hs s) ≡ x → Shows x
    go true e = rw (eqb-true (first_of hs s) (past_of hs s) e, none)
    go false e = refl
