-- Marking: the white records among the registers of a session, the list's end that shading leaves, and shading as a step of a walk.
use Rattle.std.specs.Prelude.{ℕ, Bool, cond, List, [], ◌∷◌, eqb, length}
use Rattle.std.specs.List.{list_any}
use Rattle.rules.specs.Refusals.{Tested, passed, ◌>>=◌}
use Rattle.rules.specs.Memory.{Memory, null}
use Rattle.rules.specs.Control.{Store, with_memory, with_walk, with_list}
use Rattle.rules.specs.Barriers.{heap_of, shading, shade, without, to_shade_all}
use Rattle.heap.specs.View.{memory, if_white}

-- v is one of the words
abbrev pub among : ℕ → List ℕ → Bool
among v ws = list_any (λ (w : ℕ). eqb w v) ws

-- ---- the white records among references

-- each once, in the order met: what to_shade_all gives where it passes
abbrev pub whites_among : Memory → List ℕ → List ℕ
whites_among M [] = []
whites_among M (v ∷ vs) = cond (eqb (if_white M v) null) (whites_among M vs) (if_white M v ∷ without (if_white M v) (whites_among M vs))

-- how many there are, each reference tested
abbrev pub white_count : Memory → List ℕ → Tested ℕ
white_count M vs = do
  ws ← to_shade_all M vs
  passed (length ws)

-- ---- shading

-- the store over the words of half 0, half 1 and the list, its list ending at n
abbrev pub ending : Store → List ℕ → List ℕ → List ℕ → ℕ → Store
ending s h0 h1 l n = with_list (with_memory s (memory h0 h1 s.memory.frontier0 s.memory.frontier1)) l s.list.head n

-- the record that q names is shaded, and the walk goes on to place k and field i
unfoldable pub shade_next : Store → ℕ → ℕ → ℕ → Tested Store
shade_next s q k i = do
  w ← shading (heap_of s) q
  passed (with_walk (shade s w) k i)
