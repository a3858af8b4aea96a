-- Marks of which one stands are those of a set that has a hop of the graph. Assumes nothing.
use Rattle.std.proofs.Common.{◌≡◌, refl, sym, ap, ◌∙◌, ℕ, ◌<◌, ◌≤◌, zero, suc, Bool, true, false, cond, ◌&&◌, List, length, take, eqb, add-one, arith}
use Rattle.std.specs.List.{list_any}
use Rattle.std.proofs.Math.Bool.{or_comm}
use Rattle.std.proofs.Math.Seq.{take-length}
use Rattle.std.proofs.lemmas.List.Folds.{list_any_more}
use Rattle.base_bounded.specs.Quantifiers.{any}
use Rattle.base_bounded.proofs.Quantifiers.{any_same}
use Rattle.base_outputs.specs.Output.{on_front}
use Rattle.graph.specs.Hops.{count, from, label, to}
use Rattle.graph.specs.declared.Shape.{Shape}
use Rattle.base_fixpoint.specs.Pairs.{Pairs}
use Rattle.mark_confluence.specs.Internal.MarkSet.{is_marked}
use Rattle.mark_confluence.specs.Marks.{mark_of, marks_of}
use Rattle.mark_confluence.proofs.Marks.{marks_at}
use Rattle.mark_senses.specs.Senses.{in_set_at, marked_by}
use Rattle.reduce_representatives.specs.Reducible.{Reducible}
use Rattle.shrink_iterate.specs.Iterate.{some_marked}

-- one of the first n elements is 1, asked of the list and asked of the places below n
any_first : (ms : List ℕ) (n : ℕ) → n ≤ length ms → list_any (λ (x : ℕ). eqb x 1) (take n ms) ≡ any n (is_marked ms)
unfolding any is_marked
any_first ms zero l = refl
any_first ms (suc n) l =
    let h : n < length ms = omega arith in
    rw add-one at (list_any_more (λ (x : ℕ). eqb x 1) ms n 0 h) ∙ rw (any_first ms n (omega arith)) (or_comm (any n (is_marked ms)) (is_marked ms n))

pub any_whole : (ms : List ℕ) → list_any (λ (x : ℕ). eqb x 1) ms ≡ any (length ms) (is_marked ms)
any_whole ms = rw take-length at (any_first ms (length ms) (omega arith))

-- asked of a front of the marks
pub any_front : (ms : List ℕ) (n : ℕ) → n ≤ length ms → any (length (take n ms)) (is_marked (take n ms)) ≡ any n (is_marked ms)
any_front ms n l = sym (any_whole (take n ms)) ∙ any_first ms n l

module _ (hs : List ℕ) (u : Pairs) (ms out : List ℕ) (e : ms ≡ on_front (marks_of hs u) out) where
  told : (b : Bool) → eqb (cond b 1 0) 1 ≡ b
  told true = refl
  told false = refl

  mark_result : (i : ℕ) → i < count hs → is_marked ms i ≡ in_set_at hs u i
  unfolding is_marked mark_of in_set_at
  mark_result i l = ap (λ (x : ℕ). eqb x 1) (marks_at hs u ms out e l) ∙ told (eqb (label hs i) 0 && u (from hs i) (to hs i))

  any_result : any (count hs) (is_marked ms) ≡ any (count hs) (in_set_at hs u)
  any_result = any_same (is_marked ms) (in_set_at hs u) (count hs) mark_result

pub some_result : (k : ℕ) (sh : Shape) (hs ms out : List ℕ) → ms ≡ on_front (marks_of hs (marked_by k sh hs)) out → {n : ℕ} {r : Bool} → n ≡ count hs →
    r ≡ any n (is_marked ms) → r ≡ some_marked k sh hs
unfolding some_marked
some_result k sh hs ms out e c d = d ∙ ap (λ (n : ℕ). any n (is_marked ms)) c ∙ any_result hs (marked_by k sh hs) ms out e

-- a part of the hops that equals a graph's list can be reduced as the graph can, and has a marked
-- hop exactly when the graph has
pub seen_reducible : {sh : Shape} {seen hs : List ℕ} → seen ≡ hs → Reducible sh hs → Reducible sh seen
seen_reducible p red = rw p red

pub seen_some : (k : ℕ) (sh : Shape) {seen hs : List ℕ} → seen ≡ hs → {r x : Bool} → r ≡ some_marked k sh seen → r ≡ x → x ≡ some_marked k sh hs
seen_some k sh p e d = sym d ∙ e ∙ ap (some_marked k sh) p
