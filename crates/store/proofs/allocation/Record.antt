-- A new record at the frontier of one half, or of both: room for it, and what is written; and its session.
use Prim.Native.Nat.{ℕ, zero, suc, ◌+◌, ◌*◌, ◌≤◌, ◌<◌}
use mathlib.Core.Path.{◌≡◌, ◌∙◌, refl, ap}
use mathlib.Core.Bool.{Bool, true, false, cond, ◌&&◌}
use mathlib.Core.List.{List, []}
use native.Mathlib.Omega.{arith}
use lib.Dec.{eqb}
use lib.ListN.{length, get_or, set}
use lib.Seq.{sets, get_or-set_same, set-set}
use borrow.Author.Tests.{le-leb, lt-leb, leb-true}
use Rattle.rules.specs.Cycle.{at_reclaim}
use Rattle.rules.specs.Memory.{Memory, half, frontier, with_half, with_frontier, reference, shape_word, new_record, append, next_reference, header}
use Rattle.rules.specs.Control.{Store, with_memory, with_sessions, most_length}
use Rattle.rules.specs.Phases.{other_half, fromspace, tospace, absent, session_at, with_session, with_registers, with_charge}
use Rattle.rules.specs.Barriers.{room_in, allocation_room, next_birth, placed, allocated, allocated_reference}
use Rattle.rules.specs.Calls.{with_register, charged}
use Rattle.rules.specs.declared.Session.{Session}
use Rattle.rules.proofs.Ranges.{both}
use Rattle.heap.specs.View.{memory}
use Rattle.heap.proofs.Written.{appended}
use Rattle.store.specs.View.{view}
use Rattle.store.specs.Allocation.{Room, Allocatable}
use Rattle.store.specs.declared.Control.{Control}

-- ---- one record

pub room_at : {at : ℕ} (h0 h1 : List ℕ) (f0 f1 h n : ℕ) → at ≡ frontier (memory h0 h1 f0 f1) h
    → frontier (memory h0 h1 f0 f1) h + n ≤ length (half (memory h0 h1 f0 f1) h) → at + n ≤ length (half (memory h0 h1 0 0) h)
unfolding half
room_at h0 h1 f0 f1 h n e a = rw e a

pub below_at : {at f m : ℕ} → at ≡ f → f ≤ m → at ≤ m
below_at e a = rw e a

pub placed_at : {t : Store} {N : Memory} {at : ℕ} (s : Store) (h r p c v q : ℕ) → at ≡ frontier s.memory h
    → N ≡ with_half s.memory h (sets (half s.memory h) at (new_record (256 * r + p) c v q (r + p)))
    → t ≡ with_memory s (with_frontier N h (at + (r + p + header)))
    → t ≡ with_memory s (placed s.memory h r p c v q)
unfolding placed shape_word
placed_at {t} {N} {at} s h r p c v q a b e =
    let d : N ≡ with_half s.memory h (sets (half s.memory h) (frontier s.memory h) (new_record (256 * r + p) c v q (r + p))) = rw (← a) b in
    e ∙ ap (λ (k : ℕ). with_memory s (with_frontier N h (k + (r + p + header)))) a
    ∙ ap (λ (M : Memory). with_memory s M) (appended s.memory h (256 * r + p) c v q (r + p) d)

-- ---- halves

pub other_small : (h : ℕ) → other_half h ≤ 1
unfolding other_half
other_small h = omega arith

chosen_small : (b : Bool) (h : ℕ) → h ≤ 1 → cond b (other_half h) h ≤ 1
chosen_small true h l = other_small h
chosen_small false h l = l

pub fromspace-small : {from : ℕ} (s : Store) → from ≡ fromspace s → s.current ≤ 1 → from ≤ 1
unfolding fromspace
fromspace-small s e l = rw e (chosen_small (eqb s.phase at_reclaim) s.current l)

front-small : (b : Bool) (f0 f1 : ℕ) → f0 ≤ most_length → f1 ≤ most_length → cond b f0 f1 ≤ most_length
front-small true f0 f1 x y = x
front-small false f0 f1 x y = y

pub frontier-small : (h0 h1 : List ℕ) (f0 f1 h : ℕ) → f0 ≤ most_length → f1 ≤ most_length → frontier (memory h0 h1 f0 f1) h ≤ most_length
unfolding frontier
frontier-small h0 h1 f0 f1 h x y = front-small (eqb h 0) f0 f1 x y

-- ---- room

module _ (c : Control) (h0 h1 : List ℕ) (l r p : ℕ) (a : Allocatable c h0 h1 l r p) where
  room_of : (h : ℕ) → room_in (memory h0 h1 c.cursor.frontier0 c.cursor.frontier1) h r p ≡ true → Room c h0 h1 h r p
  unfolding room_in
  room_of h e =
      let M = memory h0 h1 c.cursor.frontier0 c.cursor.frontier1 in
      let g : frontier M h + (header + r + p) ≤ length (half M h) = leb-true (frontier M h + (header + r + p)) (length (half M h)) e in
      record {
        above = omega arith;
        short = frontier-small h0 h1 c.cursor.frontier0 c.cursor.frontier1 h a.small.low a.small.high;
        refs = a.small.refs;
        plains = a.small.plains;
      }

  pub room_one : l ≤ 2 → Room c h0 h1 c.cursor.current r p
  unfolding allocation_room
  room_one g = room_of c.cursor.current (rw (le-leb l 2 g) at (a.room []))

  pub room_each : 2 < l → (h : ℕ) → h ≤ 1 → Room c h0 h1 h r p
  unfolding allocation_room
  room_each g h n =
      let M = memory h0 h1 c.cursor.frontier0 c.cursor.frontier1 in
      let e : (room_in M 0 r p && room_in M 1 r p) ≡ true = rw (lt-leb l 2 g) at (a.room []) in
      let b = both (room_in M 0 r p) (room_in M 1 r p) e in
      room_of h (which h n b.0 b.1)
    where
      which : (h : ℕ) → h ≤ 1 → room_in (memory h0 h1 c.cursor.frontier0 c.cursor.frontier1) 0 r p ≡ true
          → room_in (memory h0 h1 c.cursor.frontier0 c.cursor.frontier1) 1 r p ≡ true → room_in (memory h0 h1 c.cursor.frontier0 c.cursor.frontier1) h r p ≡ true
      which zero n x y = x
      which (suc zero) n x y = y
      which (suc (suc h)) n x y = absurd (omega arith)

-- a record in one half leaves the other as it is
other_kept : (M : Memory) (f r p c v q : ℕ) → f ≤ 1
    → (frontier (placed M f r p c v q) (other_half f) ≡ frontier M (other_half f)) × (half (placed M f r p c v q) (other_half f) ≡ half M (other_half f))
unfolding placed append with_frontier with_half frontier half other_half
other_kept M zero r p c v q n = (refl, refl)
other_kept M (suc zero) r p c v q n = (refl, refl)
other_kept M (suc (suc f)) r p c v q n = absurd (omega arith)

pub room-second : {to : ℕ} (d c : Control) (h0 h1 k0 k1 : List ℕ) (from r p x v q : ℕ) → from ≤ 1 → to ≡ other_half from → Room c h0 h1 to r p
    → view d k0 k1 [] ≡ with_memory (view c h0 h1 []) (placed (view c h0 h1 []).memory from r p x v q)
    → Room d k0 k1 to r p
room-second {to} d c h0 h1 k0 k1 from r p x v q n t m e =
    let M = memory h0 h1 c.cursor.frontier0 c.cursor.frontier1 in
    let N = memory k0 k1 d.cursor.frontier0 d.cursor.frontier1 in
    let E : N ≡ placed M from r p x v q = ap (λ (s : Store). s.memory) e in
    let k = other_kept M from r p x v q n in
    let a : frontier N to ≡ frontier M to = ap (λ (Z : Memory). frontier Z to) E ∙ rw t k.0 in
    let b : length (half N to) ≡ length (half M to) = ap (λ (Z : Memory). length (half Z to)) E ∙ rw t (ap length k.1) in
    let u : frontier M to + (r + p + header) ≤ length (half M to) = m.above in
    let w : frontier M to ≤ most_length = m.short in
    record { above = omega arith; short = omega arith; refs = m.refs; plains = m.plains }

-- ---- what is written, by level

pub next_birth_lem : (s : Store) → next_birth s ≡ s.births + 1
next_birth_lem s = omega arith

module _ {t : Store} (s : Store) (l r p : ℕ) where
  pub allocated-white : l ≤ 1 → t ≡ with_memory s (placed s.memory s.current r p 0 0 (s.births + 1)) → t ≡ with_memory s (allocated s l r p)
  unfolding allocated
  allocated-white g e = rw (le-leb l 1 g, next_birth_lem s) e

  pub allocated-black : 1 < l → l ≤ 2 → t ≡ with_memory s (placed s.memory s.current r p 2 0 (s.births + 1)) → t ≡ with_memory s (allocated s l r p)
  unfolding allocated
  allocated-black f g e = rw (lt-leb l 1 f, le-leb l 2 g, next_birth_lem s) e

  pub allocated_both : {u : Store} {from to old new fo fn : ℕ} → 1 < l → 2 < l → from ≡ fromspace s → to ≡ other_half from
      → fo ≡ frontier s.memory from → old ≡ reference from fo → fn ≡ frontier s.memory to → new ≡ reference to fn
      → u ≡ with_memory s (placed s.memory from r p 2 new (s.births + 1))
      → t ≡ with_memory u (placed u.memory to r p 0 old (s.births + 1))
      → t ≡ with_memory s (allocated s l r p)
  unfolding allocated next_reference tospace
  allocated_both f g a b c d e h x y = rw (lt-leb l 1 f, lt-leb l 2 g, y, x, h, e, d, c, b, a, next_birth_lem s)

-- ---- the reference

module _ (s : Store) (l : ℕ) where
  pub given-current : l ≤ 2 → next_reference s.memory s.current ≡ allocated_reference s l
  unfolding allocated_reference
  given-current g = rw (le-leb l 2 g)

  pub given-from : {h : ℕ} → 2 < l → l ≤ 5 → h ≡ fromspace s → next_reference s.memory h ≡ allocated_reference s l
  unfolding allocated_reference
  given-from f g e = rw (lt-leb l 2 f, le-leb l 5 g, e)

  pub given_to : {h k : ℕ} → 2 < l → 5 < l → h ≡ fromspace s → k ≡ other_half h → next_reference s.memory k ≡ allocated_reference s l
  unfolding allocated_reference tospace
  given_to f g e d = rw (lt-leb l 2 f, lt-leb l 5 g, d, e)

  pub given : (h : ℕ) {f v : ℕ} → next_reference s.memory h ≡ allocated_reference s l → f ≡ frontier s.memory h → v ≡ reference h f → v ≡ allocated_reference s l
  unfolding next_reference
  given h e a b = b ∙ rw a e

-- ---- the session

-- a register set, and then words charged: the session is set once
pub charged-once : {y : Session} (s : Store) (n k v w : ℕ) → n < length s.sessions
    → (let x = with_registers (get_or s.sessions n absent) (set (get_or s.sessions n absent).registers k v) in y ≡ with_charge x (x.charge + w))
    → with_sessions s (set s.sessions n y) ≡ charged (with_register s n k v) n w
unfolding charged with_register with_session session_at
charged-once {y} s n k v w l e =
    let x = with_registers (get_or s.sessions n absent) (set (get_or s.sessions n absent).registers k v) in
    rw (get_or-set_same s.sessions n x absent l, set-set s.sessions n x (with_charge x (x.charge + w)), e)
