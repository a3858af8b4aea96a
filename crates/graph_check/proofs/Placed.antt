-- A place below a bound: when it is there, and when not. Assumes nothing.
use Rattle.std.proofs.Common.{ℕ, ◌≡◌, ◌<◌, ◌≤◌, Bool, true, false, cond, refl, sym, ◌∙◌, Option, Some, None}
use borrow.Author.Tests.{lt-ltb, le-ltb, ltb-false}
use lib.Dec.{ltb}
use Rattle.base_bounded.proofs.Quantifiers.{least_none, least_more}
use Rattle.graph_check.specs.Internal.Places.{place_below}

pub place_some : {n i f : ℕ} → i < n → i ≡ f → Some i ≡ place_below n f
place_some l e = rw (← e, lt-ltb _ _ l)

pub place_none : {n f : ℕ} → n ≤ f → None ≡ place_below n f
place_none l = rw (le-ltb _ _ l)

pub none_place : {n f : ℕ} {r : Option ℕ} → r ≡ place_below n f → r ≡ None → n ≤ f
none_place {n} {f} e d = go (ltb f n) refl (sym e ∙ d) where
  go : (t : Bool) → ltb f n ≡ t → cond t (Some f) None ≡ None → n ≤ f
  go true q w = cc
  go false q w = ltb-false _ _ q

-- for `using`: no place passed so far is the least
pub ruleset none_passed = (least_none, least_more)
