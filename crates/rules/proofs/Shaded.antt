-- The store with a record shaded, and a law on it by cases: nothing is shaded where the reference is null. And shading beside sessions.
use Prim.Native.Nat.{ℕ, ◌+◌}
use mathlib.Core.Path.{◌≡◌, refl}
use mathlib.Core.Bool.{Bool, true, false, cond}
use mathlib.Core.List.{List, [], ◌∷◌}
use lib.Dec.{eqb}
use lib.ListN.{set}
use Rattle.rules.specs.Memory.{Memory, null, grey, colour_at, put}
use Rattle.rules.specs.Control.{Store, with_memory, with_list, with_sessions}
use Rattle.rules.specs.Barriers.{shade, shade_all}
use Rattle.rules.specs.declared.Session.{Session}

abbrev pub greyed : Store → ℕ → Memory
greyed s v = put s.memory v colour_at grey

abbrev pub shaded : Store → ℕ → Store
shaded s v =
    with_list (with_memory s (greyed s v)) (set s.list.words s.list.tail v) s.list.head (s.list.tail + 1)

pub shade_either : (P : Store → Type 0) (s : Store) (v : ℕ) → P s → P (shaded s v) → P (shade s v)
unfolding shade
shade_either P s v h k = pick (eqb v null)
  where
    pick : (b : Bool) → P (cond b s (shaded s v))
    pick true = h
    pick false = k

-- ---- sessions changed before shading or after it, that is the same

shade-sessions : (s : Store) (xs : List Session) (v : ℕ) → shade (with_sessions s xs) v ≡ with_sessions (shade s v) xs
unfolding shade
shade-sessions s xs v = pick (eqb v null)
  where
    pick : (b : Bool) → cond b (with_sessions s xs) (shaded (with_sessions s xs) v) ≡ with_sessions (cond b s (shaded s v)) xs
    pick true = refl
    pick false = refl

pub shade_all-sessions : (vs : List ℕ) (s : Store) (xs : List Session) → shade_all (with_sessions s xs) vs ≡ with_sessions (shade_all s vs) xs
shade_all-sessions [] s xs = refl
shade_all-sessions (v ∷ vs) s xs = rw (shade-sessions s xs v) (shade_all-sessions vs (shade s v) xs)
