-- Laws of the queue: nothing is pushed, one place, one set after another; and the same set stated
-- otherwise. Assumes nothing.
use Prim.Native.Nat.{ℕ, ◌+◌, ◌<◌, ◌≤◌}
use mathlib.Core.Path.{◌≡◌, refl, sym, ◌∙◌}
use mathlib.Core.Bool.{Bool, true, false}
use mathlib.Core.List.{List, [], ◌∷◌, ◌++◌}
use mathlib.Core.Logic.{◌⊎◌, inl, inr, ⊎_elim}
use native.Mathlib.Omega.{arith}
use lib.ListN.{length, get_or, set, length-set}
use lib.Seq.{get_or-set_same, get_or-set_other}
use borrow.Author.Tests.{eq-eqb, ne_eqb, eqb-true}
use Rattle.std.specs.List.{All, Contains}
use Rattle.std.proofs.lemmas.List.{length-take-le, take_more_set}
use Rattle.std.proofs.lemmas.List.Elements.{All-nil, All-push, All-weaker, Contains-push, Contains-append_left}
use Rattle.base_bounded.specs.Quantifiers.{tally}
use Rattle.base_bounded.proofs.Bools.{clash, eq_or_not, lt_or_le}
use Rattle.base_bounded.proofs.Quantifiers.{tally_within, tally_zero, tally_less}
use Rattle.base_bounded.proofs.Tallies.{tally_one}
use Rattle.graph.specs.Hops.{count, from, label}
use Rattle.mark_confluence.specs.Internal.MarkSet.{is_marked}
use Rattle.mark_worklist_push.specs.declared.Worklist.{Worklist}
use Rattle.mark_worklist_push.specs.Internal.Queue.{is_set, queued, Queue, SameArrays, Wanted, Pushed, OnlyPlace, Unset}

-- marks
pub flag_yes : (ms : List ℕ) (i : ℕ) → get_or ms i 0 ≡ 1 → is_marked ms i ≡ true
unfolding is_marked
flag_yes ms i e = eq-eqb (get_or ms i 0) 1 e

pub flag_no : (ms : List ℕ) (i : ℕ) → (get_or ms i 0 ≡ 1 → ⊥) → is_marked ms i ≡ false
unfolding is_marked
flag_no ms i n = ne_eqb (get_or ms i 0) 1 n

pub flag_says : (ms : List ℕ) (i : ℕ) → is_marked ms i ≡ true → get_or ms i 0 ≡ 1
unfolding is_marked
flag_says ms i e = eqb-true (get_or ms i 0) 1 e

-- the states that marked hops leave, hop by hop
module _ (hs ms : List ℕ) where
  pub leaving_more : {i s : ℕ} (ls : List Bool) → ((j : ℕ) → j < i → is_marked ms j ≡ true → is_set ls (from hs j) ≡ true) →
      s ≡ from hs i → s < length ls → (j : ℕ) → j < i + 1 → is_marked ms j ≡ true → is_set (set ls s true) (from hs j) ≡ true
  leaving_more {i} {s} ls f q l j m e = go (eq_or_not (from hs j) s) where
    go : (from hs j ≡ s) ⊎ (from hs j ≡ s → ⊥) → is_set (set ls s true) (from hs j) ≡ true
    go (inl d) = rw d (get_or-set_same ls s true false l)
    go (inr n) = get_or-set_other ls s (from hs j) true false n ∙ f j (⊎_elim (λ h. h) (λ h. absurd (n (let x : j ≡ i = omega arith in rw x (sym q)))) (lt_or_le j i)) e

  pub leaving_skip : {i : ℕ} (ls : List Bool) → ((j : ℕ) → j < i → is_marked ms j ≡ true → is_set ls (from hs j) ≡ true) →
      (get_or ms i 0 ≡ 1 → ⊥) → (j : ℕ) → j < i + 1 → is_marked ms j ≡ true → is_set ls (from hs j) ≡ true
  leaving_skip {i} ls f n j m e =
      ⊎_elim (λ h. f j h e) (λ h. absurd (n (flag_says ms i (let x : j ≡ i = omega arith in rw x at e)))) (lt_or_le j i)

-- a worklist's arrays are its own, and those of one that has those of a third are the third's
pub arrays_same : (w : Worklist) → SameArrays w w
arrays_same w = record { flags = refl; places = refl }

pub arrays_then : {u v w : Worklist} → SameArrays u v → SameArrays v w → SameArrays u w
arrays_then g h = record { flags = h.flags ∙ g.flags; places = h.places ∙ g.places }

module _ (hs ms : List ℕ) where
  pub wanted_map : {W X : ℕ → Type 0} → ((x : ℕ) → W x → X x) → {i : ℕ} → Wanted hs ms W i → Wanted hs ms X i
  wanted_map f w = record { silent = w.silent; marked = w.marked; inside = f _ w.inside }

  -- an empty queue
  pub queue_none : {w : Worklist} → count hs ≤ length w.flags.now → count hs ≤ length w.places.now → w.len ≡ 0 → Unset hs w.flags.now → Queue hs w
  unfolding Unset
  queue_none {w} a b z u = record {
    flags = a;
    capacity = b;
    counted = z ∙ sym (tally_zero (is_set w.flags.now) (count hs) u);
    each = rw z (All-nil _);
    all = λ i l e. clash e (u i l);
  }

  -- the queue is as long as the worklist says
  pub queue_length : {w : Worklist} → Queue hs w → length (queued w) ≡ w.len
  queue_length {w} q =
      length-take-le w.len w.places.now (omega (arith, q.counted, q.capacity, tally_within (is_set w.flags.now) (count hs)))

  -- while a hop is missing from the queue, the queue has capacity for one more
  pub queue_capacity : {w : Worklist} {i : ℕ} → Queue hs w → i < count hs → is_set w.flags.now i ≡ false → w.len < count hs
  queue_capacity {w} q l e =
      omega (arith, q.counted, tally_less (is_set w.flags.now) (λ (j : ℕ). true) (count hs) (λ j m h. refl) l e refl, tally_within (λ (j : ℕ). true) (count hs))

  -- nothing is pushed if each wanted hop is in the queue
  pub pushed_none : {W : ℕ → Type 0} {w : Worklist} → Queue hs w → ((i : ℕ) → i < count hs → Wanted hs ms W i → is_set w.flags.now i ≡ true) → Pushed hs ms W w w
  pushed_none q f = record { arrays = arrays_same _; queue = q; kept = λ i l e. e; came = λ i l e. inl e; all = f }

  -- the one wanted hop is pushed
  module _ {w new : Worklist} {i : ℕ} (q : Queue hs w) (l : i < count hs) (off : is_set w.flags.now i ≡ false)
      (same : SameArrays w new) (fl : new.flags.now ≡ set w.flags.now i true) (pl : new.places.now ≡ set w.places.now w.len i) (n : new.len ≡ w.len + 1) where
    flag_is : (j : ℕ) → is_set new.flags.now j ≡ is_set (set w.flags.now i true) j
    flag_is j = rw fl refl

    there : (j : ℕ) → (j ≡ i → ⊥) → is_set new.flags.now j ≡ is_set w.flags.now j
    there j m = flag_is j ∙ get_or-set_other w.flags.now i j true false m

    one_here : is_set new.flags.now i ≡ true
    one_here = flag_is i ∙ get_or-set_same w.flags.now i true false (omega (arith, q.flags))

    one_kept : (j : ℕ) → j < count hs → is_set w.flags.now j ≡ true → is_set new.flags.now j ≡ true
    one_kept j k e = ⊎_elim (λ d. clash (rw d at e) off) (λ m. there j m ∙ e) (eq_or_not j i)

    fits : w.len < length w.places.now
    fits = omega (arith, queue_capacity q l off, q.capacity)

    behind : queued new ≡ queued w ++ i ∷ []
    behind = rw (n, pl) (take_more_set w.places.now w.len i fits)

    one_queue : Queue hs new
    one_queue = record { flags = rw fl (simp length-set q.flags); capacity = rw pl (simp length-set q.capacity); counted = counted; each = each; all = all } where
      counted : new.len ≡ tally (count hs) (is_set new.flags.now)
      counted = n ∙ (rw q.counted refl) ∙ tally_one (is_set w.flags.now) (is_set new.flags.now) (count hs) l off one_here there

      Queued : (List Bool) → ℕ → Type 0
      Queued fs j = (j < count hs) × (is_set fs j ≡ true)

      each : All (Queued new.flags.now) (queued new)
      each =
          rw behind
          (All-push (Queued new.flags.now) (queued w) i
          (All-weaker (Queued w.flags.now) (Queued new.flags.now) (λ j e. (e.0, one_kept j e.0 e.1)) (queued w) q.each) (l, one_here))

      all : (j : ℕ) → j < count hs → is_set new.flags.now j ≡ true → Contains (queued new) j
      all j m e =
          rw behind
          (⊎_elim (λ d. rw d (Contains-push (queued w) i)) (λ d. Contains-append_left (queued w) (i ∷ []) j (q.all j m (sym (there j d) ∙ e))) (eq_or_not j i))

    pub pushed_one : label hs i ≡ 0 → get_or ms i 0 ≡ 1 → Pushed hs ms (OnlyPlace i) w new
    pushed_one z m = record { arrays = same; queue = one_queue; kept = one_kept; came = came; all = λ j k x. rw x.inside one_here } where
      came : (j : ℕ) → j < count hs → is_set new.flags.now j ≡ true → (is_set w.flags.now j ≡ true) ⊎ Wanted hs ms (OnlyPlace i) j
      came j k e =
          ⊎_elim (λ d. inr (rw d (record { silent = z; marked = flag_yes ms i m; inside = refl })))
          (λ d. inl (sym (there j d) ∙ e)) (eq_or_not j i)

  -- one set after another
  pub pushed_then : {W X Y : ℕ → Type 0} {old mid new : Worklist} → Pushed hs ms W old mid → Pushed hs ms X mid new →
      ((x : ℕ) → W x → Y x) → ((x : ℕ) → X x → Y x) → ((x : ℕ) → Wanted hs ms Y x → W x ⊎ X x) → Pushed hs ms Y old new
  pushed_then {W} {X} {Y} {old} {mid} {new} g h f e d = record {
    arrays = arrays_then g.arrays h.arrays;
    queue = h.queue;
    kept = λ i l m. h.kept i l (g.kept i l m);
    came = came;
    all = all;
  } where
    came : (i : ℕ) → i < count hs → is_set new.flags.now i ≡ true → (is_set old.flags.now i ≡ true) ⊎ Wanted hs ms Y i
    came i l m = ⊎_elim (λ a. ⊎_elim (λ b. inl b) (λ b. inr (wanted_map f b)) (g.came i l a)) (λ a. inr (wanted_map e a)) (h.came i l m)

    all : (i : ℕ) → i < count hs → Wanted hs ms Y i → is_set new.flags.now i ≡ true
    all i l w = ⊎_elim (λ a. h.kept i l (g.all i l (record { silent = w.silent; marked = w.marked; inside = a })))
        (λ a. h.all i l (record { silent = w.silent; marked = w.marked; inside = a })) (d i w)

  -- the same set stated otherwise, of the wanted hops
  pub pushed_same : {W X : ℕ → Type 0} {old new : Worklist} → Pushed hs ms W old new →
      ((x : ℕ) → W x → X x) → ((x : ℕ) → x < count hs → Wanted hs ms X x → W x) → Pushed hs ms X old new
  pushed_same {W} {X} g f e = record {
    arrays = g.arrays;
    queue = g.queue;
    kept = g.kept;
    came = λ i l m. ⊎_elim (λ a. inl a) (λ a. inr (wanted_map f a)) (g.came i l m);
    all = λ i l w. g.all i l (record { silent = w.silent; marked = w.marked; inside = e i l w });
  }
