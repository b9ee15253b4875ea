-- Tracked places: the place of each reference after a change of memory, by what has been written at the frontiers.
use Prim.Native.Nat.{ℕ, zero, suc, ◌≤◌, ◌<◌}
use mathlib.Core.Path.{◌≡◌, refl, sym, ◌∙◌}
use mathlib.Core.Logic.{◌≢◌}
use mathlib.Core.Bool.{Bool, true, false, cond}
use native.Mathlib.Nat.{le_refl}
use native.Mathlib.Omega.{arith}
use lib.Dec.{ltb}
use borrow.Author.Tests.{eq-eqb, ne_eqb, lt-ltb, le-ltb}
use Rattle.rules.specs.Memory.{Memory, null, frontier, half_of, next_reference}
use Rattle.rules.specs.Tracking.{update, track_half}
use Rattle.rules.proofs.memory.Records.{Start}
use Rattle.rules.proofs.memory.Next.{next-half, next_nonnull, next-fresh}

-- the place of each reference after a change that gives q to what was written at a frontier
unfoldable pub tracked : ℕ → (ℕ → ℕ) → Memory → Memory → ℕ → ℕ
tracked q m M M' = track_half M M' 0 q (track_half M M' 1 q m)

-- m' is that place
abbrev pub Tracks : ℕ → (ℕ → ℕ) → (ℕ → ℕ) → Memory → Memory → Type 0
Tracks q m m' M M' = (u : ℕ) → m' u ≡ tracked q m M M' u

-- ---- where no frontier rises, no place is given

half_stays : (q h : ℕ) (m : ℕ → ℕ) (M M' : Memory) → frontier M' h ≤ frontier M h → (u : ℕ) → track_half M M' h q m u ≡ m u
unfolding track_half
half_stays q h m M M' l u = rw (le-ltb (frontier M h) (frontier M' h) l)

pub tracks_stay : (q : ℕ) (m : ℕ → ℕ) (M M' : Memory) → frontier M' 0 ≤ frontier M 0 → frontier M' 1 ≤ frontier M 1 → Tracks q m m M M'
unfolding tracked
tracks_stay q m M M' a b u = sym (half_stays q 0 (track_half M M' 1 q m) M M' a u ∙ half_stays q 1 m M M' b u)

pub tracks_none : (q : ℕ) (m : ℕ → ℕ) (M : Memory) → Tracks q m m M M
tracks_none q m M = tracks_stay q m M M (le_refl _) (le_refl _)

-- ---- what is new at a frontier gets q, all else stays

update_other : (m : ℕ → ℕ) (v q u : ℕ) → u ≢ v → update m v q u ≡ m u
unfolding update
update_other m v q u d = rw (ne_eqb u v d)

update_here : (m : ℕ → ℕ) (v q : ℕ) → update m v q v ≡ q
unfolding update
update_here m v q = rw (eq-eqb v v refl)

track_other : (M M' : Memory) (h q : ℕ) (m : ℕ → ℕ) (u : ℕ) → u ≢ next_reference M h → track_half M M' h q m u ≡ m u
unfolding track_half
track_other M M' h q m u d = pick (ltb (frontier M h) (frontier M' h))
  where
    pick : (b : Bool) → cond b (update m (next_reference M h) q) m u ≡ m u
    pick true = update_other m (next_reference M h) q u d
    pick false = refl

track-here : (M M' : Memory) (h q : ℕ) (m : ℕ → ℕ) → frontier M h < frontier M' h → track_half M M' h q m (next_reference M h) ≡ q
unfolding track_half
track-here M M' h q m l = rw (lt-ltb (frontier M h) (frontier M' h) l) (update_here m (next_reference M h) q)

module _ (q : ℕ) (m : ℕ → ℕ) (M M' : Memory) where
  pub tracked_none : tracked q m M M' null ≡ m null
  unfolding tracked
  tracked_none =
      track_other M M' 0 q (track_half M M' 1 q m) null (λ e. next_nonnull M 0 (sym e)) ∙ track_other M M' 1 q m null (λ e. next_nonnull M 1 (sym e))

  pub tracked_old : {u : ℕ} → Start M u → tracked q m M M' u ≡ m u
  unfolding tracked
  tracked_old {u} t =
      track_other M M' 0 q (track_half M M' 1 q m) u (next-fresh t 0 (omega arith)) ∙ track_other M M' 1 q m u (next-fresh t 1 (omega arith))

  pub tracked_new : (h : ℕ) → h < 2 → frontier M h < frontier M' h → tracked q m M M' (next_reference M h) ≡ q
  unfolding tracked
  tracked_new zero two l = track-here M M' 0 q (track_half M M' 1 q m) l
  tracked_new (suc zero) two l =
      track_other M M' 0 q (track_half M M' 1 q m) (next_reference M 1) (λ e. absurd (apart e)) ∙ track-here M M' 1 q m l
    where
      apart : next_reference M 1 ≢ next_reference M 0
      apart e = let a = next-half M 1 (omega arith) in let b = next-half M 0 (omega arith) in let c : half_of (next_reference M 1) ≡ half_of (next_reference M 0) = rw e in omega arith
  tracked_new (suc (suc h)) two l = absurd (omega arith)
