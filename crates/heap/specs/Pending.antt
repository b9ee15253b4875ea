-- Words that are going to be written, in the order of writing.
use Rattle.std.specs.Prelude.{ℕ, cond, ◌&&◌, List, [], ◌∷◌, eqb, set}
use Rattle.rules.specs.Memory.{Memory, in_half, word_of}
use Rattle.heap.specs.View.{memory}
use Rattle.heap.specs.declared.halves.Pending.{Pending}

-- half h with the pending words written
abbrev pub laid : ℕ → List Pending → List ℕ → List ℕ
laid h [] ws = ws
laid h (p ∷ ps) ws = laid h ps (cond (in_half h p.place) (set ws (word_of p.place) p.word) ws)

-- both halves with them written
abbrev pub memory_with : List Pending → List ℕ → List ℕ → ℕ → ℕ → Memory
memory_with ps h0 h1 f0 f1 = memory (laid 0 ps h0) (laid 1 ps h1) f0 f1

-- word k of half h with the pending words written, where it is w before that
unfoldable pub seen : ℕ → List Pending → ℕ → ℕ → ℕ
seen h [] k w = w
seen h (p ∷ ps) k w = seen h ps k (cond (in_half h p.place && eqb (word_of p.place) k) p.word w)
