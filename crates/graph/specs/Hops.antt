-- The hop list (transition list) of documents 01 and 02: "Flat lists .. now hold four numbers a
-- hop", seen by places that count hops from 0. Hops are looked at through this file, the accessors
-- and their laws; elsewhere four stands only where the documents say it: in the length that an
-- output needs. Assumes nothing: these are definitions.
use Rattle.std.specs.Prelude.{ℕ, ◌+◌, ◌-◌, ◌*◌, ◌/◌, ◌%◌, ◌≡◌, Bool, ◌&&◌, List, [], ◌∷◌, length, get_or, take, drop, eqb}
use Rattle.std.specs.Borrow.{Bor}
use Rattle.base_bounded.specs.Quantifiers.{any}
use Rattle.graph.specs.declared.Hop.{Hop}

-- "four numbers a hop"
abbrev pub numbers_a_hop : ℕ
numbers_a_hop = 4

-- how many hops a list holds; a list whose length is no multiple of four is not whole, and refused
abbrev pub count : List ℕ → ℕ
count hs = length hs / numbers_a_hop

abbrev pub whole : List ℕ → Bool
whole hs = eqb (length hs % numbers_a_hop) 0

-- where the hop at a place begins, in numbers of the list.
-- In the field: a place is an index, from 0.
abbrev pub number_place : ℕ → ℕ
number_place i = numbers_a_hop * i

-- the numbers of the hop at a place: from, label, to, and "a fourth number, its source line, 0 for
-- none"
abbrev pub from : List ℕ → ℕ → ℕ
from hs i = get_or hs (number_place i) 0

abbrev pub label : List ℕ → ℕ → ℕ
label hs i = get_or hs (number_place i + 1) 0

abbrev pub to : List ℕ → ℕ → ℕ
to hs i = get_or hs (number_place i + 2) 0

abbrev pub line_at : List ℕ → ℕ → ℕ
line_at hs i = get_or hs (number_place i + 3) 0

-- the hop s, a, t of source line l
abbrev pub lined_hop : ℕ → ℕ → ℕ → ℕ → Hop
lined_hop s a t l = record { from = s; label = a; to = t; line = l }

-- the hop s, a, t of no line, as it is sought
abbrev pub hop_of : ℕ → ℕ → ℕ → Hop
hop_of s a t = lined_hop s a t 0

-- the hop at a place
abbrev pub hop_at : List ℕ → ℕ → Hop
hop_at hs i = lined_hop (from hs i) (label hs i) (to hs i) (line_at hs i)

-- "Order and equality go by the first three": two hops are alike that have the same from, label and
-- to. Order, search and meaning look at no more of a hop
pub record Alike (a b : Hop) : Type 0 where
  pub same_from : a.from ≡ b.from
  pub same_label : a.label ≡ b.label
  pub same_to : a.to ≡ b.to

-- the test of `Alike`
abbrev pub same : Hop → Hop → Bool
same a b = eqb a.from b.from && (eqb a.label b.label && eqb a.to b.to)

-- the flat list of a list of hops
unfoldable pub flat : List Hop → List ℕ
flat [] = []
flat (h ∷ hs) = h.from ∷ h.label ∷ h.to ∷ h.line ∷ flat hs

-- the hop at place i is s, a, t
unfoldable pub is : List ℕ → ℕ → ℕ → ℕ → ℕ → Bool
is hs s a t i = same (hop_at hs i) (hop_of s a t)

-- the hop at place i is one of s labelled a; label 0 is silent
unfoldable pub labelled : List ℕ → ℕ → ℕ → ℕ → Bool
labelled hs s a i = eqb (from hs i) s && eqb (label hs i) a

-- the graph has the hop s, a, t
unfoldable pub has : List ℕ → ℕ → ℕ → ℕ → Bool
has hs s a t = any (count hs) (is hs s a t)

-- the part of a list from one place up to another, and where it stands in the lent list itself: in
-- the same block, two bytes a number
abbrev pub between : List ℕ → ℕ → ℕ → List ℕ
between hs first past = take (number_place past - number_place first) (drop (number_place first) hs)

abbrev pub part_address : Bor (List ℕ) → ℕ → ℕ × ℕ
part_address t first = (t.ref_ptr.0, number_place first * 2 + t.ref_ptr.1)
