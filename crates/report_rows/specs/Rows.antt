-- The lines of what the program prints (document 01, after "Graphs worked by hand"). Assumes
-- nothing: these are definitions.
use Rattle.std.specs.Prelude.{ℕ, cond, List, [], ◌∷◌, ◌++◌, eqb}
use Rattle.graph.specs.Hops.{count, from, label, to, line_at}
use Rattle.graph.specs.declared.Shape.{Shape}
use Rattle.graph.specs.declared.Answer.{Answer}
use Rattle.report_text.specs.Text.{text_line, in_word, marked_word, map_word, out_word, hop_word, no_word}
use Rattle.base_outputs.specs.Concat.{concat}

-- "`marked`: from, to, in list order": the line of the hop at place i, if it is marked
unfoldable pub marked_line : List ℕ → (ℕ → ℕ) → ℕ → List ℕ
marked_line hs mark i = cond (eqb (mark i) 1) (text_line marked_word (from hs i ∷ to hs i ∷ [])) []

-- "`map`: old, new"
unfoldable pub map_line : (ℕ → ℕ) → ℕ → List ℕ
map_line map s = text_line map_word (s ∷ map s ∷ [])

-- "`hop`: from, label, to", and "its source line, .. last in the printed `hop`"
unfoldable pub hop_line : List ℕ → ℕ → List ℕ
hop_line hs i = text_line hop_word (from hs i ∷ label hs i ∷ to hs i ∷ line_at hs i ∷ [])

-- "`in`: states, hops", the marked hops, the map, "`out`: new states, hops, initial state", the
-- short hops; marks and map by place
unfoldable pub lines_of : Shape → List ℕ → (ℕ → ℕ) → (ℕ → ℕ) → Shape → List ℕ → List ℕ
lines_of sh hs mark map new short =
    text_line in_word (sh.states ∷ count hs ∷ []) ++
    (concat (count hs) (marked_line hs mark) ++
    (concat sh.states (map_line map) ++
    (text_line out_word (new.states ∷ count short ∷ new.initial ∷ []) ++ concat (count short) (hop_line short))))

-- "A refusal prints only `no`, number, place."
unfoldable pub refusal_of : Answer → List ℕ
refusal_of a = text_line no_word (a.number ∷ a.place ∷ [])
