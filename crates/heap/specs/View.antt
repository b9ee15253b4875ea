-- The lent halves as the rules' memory, and parts of the rules' definitions that the contracts name.
use Rattle.std.specs.Prelude.{ℕ, ◌+◌, ◌≤◌, ◌<◌, Bool, cond, List, [], ◌∷◌, eqb, length}
use Rattle.rules.specs.Refusals.{Tested, passed, ◌>>◌}
use Rattle.rules.specs.Memory.{Memory, null, half, half_of, word_of, white, colour, refs, plains, replica, sound, followed}
use Rattle.rules.specs.Barriers.{copies_at}
use Rattle.rules.specs.declared.Followed.{Followed}
use Rattle.rules.specs.declared.Followed.TheVariants.{Sound, Damage}
use Rattle.rules.specs.declared.Writes.{Writes}

-- the words of half 0 and half 1, and the frontier of each
abbrev pub memory : List ℕ → List ℕ → ℕ → ℕ → Memory
memory h0 h1 f0 f1 = record { half0 = h0; half1 = h1; frontier0 = f0; frontier1 = f1 }

-- word j of the record that v names is a word of its half
pub record Inside (h0 h1 : List ℕ) (v j : ℕ) : Type 0 where
  pub named : 2 ≤ v
  pub below : word_of v + j < length (half (memory h0 h1 0 0) (half_of v))

-- the same of a memory's halves
abbrev pub Has : Memory → ℕ → ℕ → Type 0
Has M v j = Inside M.half0 M.half1 v j

-- what following answers where soundness is all that is tested
abbrev pub sound_at : Memory → ℕ → Followed
sound_at M v = cond (sound M v) (Sound (word_of v) (refs M v) (plains M v)) Damage

-- v where the record that it names is white, else null: what there is to shade of a reference that passes its test
abbrev pub if_white : Memory → ℕ → ℕ
if_white M v = cond (eqb (colour M v) white) v null

-- the records v and w, one after the other, as a list: null for none, w null where v is
abbrev pub records : ℕ → ℕ → List ℕ
records v w = cond (eqb w null) (cond (eqb v null) [] (v ∷ [])) (v ∷ w ∷ [])

-- what is written where that is one word, and nothing is shaded
abbrev pub word_alone : ℕ → Writes
word_alone q = record { first = null; second = null; own = q; replica = null; copy = null }

-- the replica that a write at level l to v goes to as well, or null where none is written
abbrev pub written_replica : Memory → ℕ → ℕ → ℕ
written_replica M l v = cond (copies_at l) (replica M v) null

-- the test of Algorithm 9(a) for a reference p in fromspace: q is the replica of p
unfoldable pub replica_is : Memory → ℕ → ℕ → Tested Bool
replica_is M p q = do
  followed M p
  passed (eqb (replica M p) q)
