-- Room for what the shares leave: both halves have it above their frontiers. A group beside the invariant, kept by every call that changes no
-- share and doesn't end Reclaim: an allocation takes from its share what the frontiers move by, and a shell goes to the half with more room.
use Prim.Native.Nat.{ℕ, zero, suc, ◌+◌, ◌-◌, ◌≤◌, ◌<◌, zero-le}
use mathlib.Core.Path.{◌≡◌, ap}
use mathlib.Core.List.{List, [], ◌∷◌}
use native.Mathlib.Nat.{not-suc-le-zero}
use native.Mathlib.Omega.{arith}
use lib.ListN.{get_or, set, length}
use Rattle.rules.specs.Memory.{frontier}
use Rattle.rules.specs.Control.{Store}
use Rattle.rules.specs.Cycle.{stage}
use Rattle.rules.specs.Phases.{other_half, absent}
use Rattle.rules.specs.Free.{Free}
use Rattle.rules.specs.Claims.{shares_left}
use Rattle.rules.specs.declared.Session.{Session}
use Rattle.rules.proofs.memory.Cases.{eq_or}
use Rattle.rules.proofs.memory.Encoding.{only_other}
use Rattle.rules.proofs.memory.Total.{total_le, total_size}
use Rattle.rules.proofs.invariant.Stages.{st_stack_flip}
use Rattle.rules.proofs.invariant.Counted.{copied_le}
use Rattle.rules.proofs.invariant.Words.{copied}
use Rattle.rules.proofs.invariant.Sim.{Sim}
use Rattle.rules.proofs.invariant.Laws.{cur_two}

-- ---- what the shares leave

-- no more where the same shares have no less charged to them
pub left_less : (xs ys : List Session) → length ys ≡ length xs → ((n : ℕ) → (get_or ys n absent).share ≡ (get_or xs n absent).share)
    → ((n : ℕ) → (get_or xs n absent).charge ≤ (get_or ys n absent).charge) → shares_left ys ≤ shares_left xs
left_less [] [] l e c = zero-le
left_less [] (y ∷ ys) l e c = absurd (omega arith)
left_less (x ∷ xs) [] l e c = absurd (omega arith)
left_less (x ∷ xs) (y ∷ ys) l e c = omega (arith, e 0, c 0, left_less xs ys (omega arith) (λ n. e (suc n)) (λ n. c (suc n)))

-- of one session no more than of all
pub left_one : (xs : List Session) (n : ℕ) → n < length xs → (get_or xs n absent).share - (get_or xs n absent).charge ≤ shares_left xs
left_one [] n l = absurd (not-suc-le-zero l)
left_one (x ∷ xs) zero l = omega arith
left_one (x ∷ xs) (suc n) l = omega (arith, left_one xs n (omega arith))

-- less by the words that are charged to one within its share
pub left-charged : (xs : List Session) (n w : ℕ) (y : Session) → n < length xs → y.share ≡ (get_or xs n absent).share
    → y.charge ≡ (get_or xs n absent).charge + w → (get_or xs n absent).charge + w ≤ (get_or xs n absent).share
    → shares_left (set xs n y) + w ≡ shares_left xs
left-charged [] n w y l e c d = absurd (not-suc-le-zero l)
left-charged (x ∷ xs) zero w y l e c d = omega arith
left-charged (x ∷ xs) (suc n) w y l e c d = omega (arith, left-charged xs n w y (omega arith) e c d)

-- ---- the group

abbrev pub Roomy : Store → Type 0
Roomy s = (g : ℕ) → g < 2 → frontier s.memory g + shares_left s.sessions ≤ s.lengths.half0

-- outside Reclaim the other half's records are copies of different ones of the current half
pub other_less : {K : ℕ → Type 0} {m : ℕ → ℕ} {s : Store} {f : Free} → Sim K m s f → stage s.phase ≤ st_stack_flip
    → frontier s.memory (other_half s.current) ≤ frontier s.memory s.current
other_less {s = s} h e =
    let M = s.memory in
    omega (arith, h.pairs.spent e, total_size h.filled (cur_two h), total_le M (cur_two h) (copied M) _ (λ v t side. copied_le M v))

-- so there it is enough that the current half has room
pub roomy-current : {K : ℕ → Type 0} {m : ℕ → ℕ} {s : Store} {f : Free} → Sim K m s f → stage s.phase ≤ st_stack_flip
    → frontier s.memory s.current + shares_left s.sessions ≤ s.lengths.half0 → Roomy s
roomy-current {s = s} h e c g two = eq_or g s.current (λ q. rw q c)
    (λ d. rw (only_other s.current g (cur_two h) two d) (omega (arith, other_less h e)))

-- ---- how a call moves the frontiers

pub data Fronts (s t : Store) : Type 0 where
  -- no frontier rises
  still : frontier t.memory 0 ≤ frontier s.memory 0 → frontier t.memory 1 ≤ frontier s.memory 1 → Fronts s t
  -- a record of w words is allocated, and charged
  paid : (w : ℕ) → ((g : ℕ) → g < 2 → frontier t.memory g ≤ frontier s.memory g + w)
      → shares_left t.sessions + w ≤ shares_left s.sessions → Fronts s t
  -- a record of the current half gets a shell
  shelled : stage t.phase ≤ st_stack_flip → t.current ≡ s.current → frontier t.memory s.current ≤ frontier s.memory s.current → Fronts s t

still-at : (s t : Store) → frontier t.memory 0 ≤ frontier s.memory 0 → frontier t.memory 1 ≤ frontier s.memory 1
    → (g : ℕ) → g < 2 → frontier t.memory g ≤ frontier s.memory g
still-at s t a b zero l = a
still-at s t a b (suc zero) l = b
still-at s t a b (suc (suc g)) l = absurd (omega arith)

pub room-kept : {K : ℕ → Type 0} {m : ℕ → ℕ} {s t : Store} {f : Free} → Sim K m t f → Fronts s t → t.lengths ≡ s.lengths
    → shares_left t.sessions ≤ shares_left s.sessions → s.current < 2 → Roomy s → Roomy t
room-kept {s = s} {t = t} h (still a b) e c two r g l =
    let z : t.lengths.half0 ≡ s.lengths.half0 = ap (λ n. n.half0) e in
    omega (arith, r g l, still-at s t a b g l)
room-kept {s = s} {t = t} h (paid w a b) e c two r g l =
    let z : t.lengths.half0 ≡ s.lengths.half0 = ap (λ n. n.half0) e in
    omega (arith, r g l, a g l)
room-kept {s = s} {t = t} h (shelled p q a) e c two r g l =
    let z : t.lengths.half0 ≡ s.lengths.half0 = ap (λ n. n.half0) e in
    roomy-current h p (rw q (omega (arith, r s.current two))) g l
