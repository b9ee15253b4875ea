-- What the invariant gives at once: which records words name, which half they are in, forwarding, fromspace and tospace.
use Prim.Native.Nat.{ℕ, ◌≤◌, ◌<◌}
use mathlib.Core.Path.{◌≡◌, refl, sym, ◌∙◌}
use mathlib.Core.Logic.{◌≢◌}
use mathlib.Core.Bool.{true, false}
use native.Mathlib.Omega.{arith}
use lib.ListN.{length}
use borrow.Author.Tests.{eq-eqb, ne_eqb, le-leb}
use Rattle.rules.specs.Memory.{Memory, null, half_of, in_half, white, black, colour, replica, copy_of, size, size_of}
use Rattle.rules.specs.Control.{Store}
use Rattle.rules.specs.Cycle.{stage, at_reclaim}
use Rattle.rules.specs.Phases.{other_half, fromspace, tospace}
use Rattle.rules.specs.Free.{Free, record_at}
use Rattle.rules.proofs.memory.Cases.{eq_or}
use Rattle.rules.proofs.memory.Encoding.{half-below_2, other_below_2, other_differs, other_other, only_other}
use Rattle.rules.proofs.memory.Records.{Start, start_nonnull, start_from_2, size-fields}
use Rattle.rules.proofs.invariant.Stages.{st_heap_mark, st_allocate, st_stack_flip, st_reclaim, stage_is, phase-is}
use Rattle.rules.proofs.invariant.Words.{In, Ok, ok_null, ok_start, Names, Clean, fwd}
use Rattle.rules.proofs.invariant.Sim.{Sim}
use Rattle.rules.proofs.invariant.Pairs.{pair_other}

-- ---- records

pub in_half_lem : {M : Memory} {h v : ℕ} → Ok M v → v ≢ null → Names h v → In M h v
in_half_lem (ok_null e) n side = absurd (n e)
in_half_lem (ok_start t) n side = record { start = t; side = side n }

pub in_or : {M : Memory} {v : ℕ} (h : ℕ) → h < 2 → Start M v → {C : Type 0} → (In M h v → C) → (In M (other_half h) v → C) → C
in_or {M} {v} h two t f g = eq_or (half_of v) h
    (λ e. f (record { start = t; side = e }))
    (λ d. g (record { start = t; side = only_other h (half_of v) two (half-below_2 v) d }))

pub in_nonnull : {M : Memory} {h v : ℕ} → In M h v → v ≢ null
in_nonnull t = start_nonnull t.start

-- ---- which half a word is in

pub in_half_yes : {M : Memory} {v h : ℕ} → Start M v → half_of v ≡ h → in_half h v ≡ true
unfolding in_half
in_half_yes {M} {v} {h} t e = rw (le-leb 2 v (start_from_2 t), eq-eqb (half_of v) h e)

pub in_half_no : {M : Memory} {v h : ℕ} → Start M v → half_of v ≢ h → in_half h v ≡ false
unfolding in_half
in_half_no {M} {v} {h} t e = rw (le-leb 2 v (start_from_2 t), ne_eqb (half_of v) h e)

pub in_half-null : (h : ℕ) → in_half h null ≡ false
unfolding in_half
in_half-null h = refl

-- ---- forwarding

pub fwd_null : (M : Memory) (to : ℕ) → fwd M to null ≡ null
unfolding fwd
fwd_null M to = refl

pub fwd_there : {M : Memory} {to v : ℕ} → In M to v → fwd M to v ≡ v
unfolding fwd
fwd_there {M} {to} {v} t = rw (ne_eqb v null (in_nonnull t), in_half_yes t.start t.side)

-- a record of the other half: its other copy
pub fwd_copy : {M : Memory} {to v : ℕ} → Start M v → half_of v ≢ to → fwd M to v ≡ copy_of M v
unfolding fwd
fwd_copy {M} {to} {v} t d = rw (ne_eqb v null (start_nonnull t), in_half_no t d)

pub copy-replica : (M : Memory) (v : ℕ) → replica M v ≢ null → copy_of M v ≡ replica M v
unfolding copy_of
copy-replica M v n = rw (ne_eqb (replica M v) null n)

copy_alone : (M : Memory) (v : ℕ) → replica M v ≡ null → copy_of M v ≡ v
unfolding copy_of
copy_alone M v e = rw (eq-eqb (replica M v) null e)

-- ---- of a store that keeps the invariant
module _ {K : ℕ → Type 0} {m : ℕ → ℕ} {s : Store} {f : Free} (h : Sim K m s f) where
  pub cur_two : s.current < 2
  cur_two = omega (arith, h.range.half)

  abbrev pub other : ℕ
  other = other_half s.current

  pub other_not : other ≢ s.current
  other_not = other_differs s.current cur_two

  -- only null has place 0
  pub place-null : {v : ℕ} → Ok s.memory v → m v ≡ null → v ≡ null
  place-null (ok_null e) z = e
  place-null {v} (ok_start t) z = let l = h.identity.low v t in absurd (omega arith)

  -- a record has as many words as the one that it stands for
  pub place-size : {v : ℕ} → Start s.memory v → size_of (length (record_at f (m v)).refs) (length (record_at f (m v)).plains) ≡ size s.memory v
  unfolding record_at
  place-size {v} t = rw (h.identity.nrefs v t, h.identity.nplains v t) (sym (size-fields s.memory v))

  -- what is marked after HeapMark is black
  pub marked_black : st_heap_mark < stage s.phase → stage s.phase ≤ st_stack_flip → {v : ℕ} → In s.memory s.current v → colour s.memory v ≢ white → colour s.memory v ≡ black
  marked_black lo hi {v} t n = omega (arith, h.filled.colours t.start, h.colours.none_grey lo hi v t)

  -- a clean reference to the current half has a replica after Allocate
  pub has_replica : st_allocate < stage s.phase → stage s.phase ≤ st_stack_flip → {v : ℕ} → In s.memory s.current v → Clean s.memory s.current v → replica s.memory v ≢ null
  has_replica lo hi {v} t c = h.colours.shelled lo hi v t (c (in_nonnull t) t.side)

  -- forwarding keeps the place and gives a record
  pub fwd_place : {v : ℕ} → Ok s.memory v → m (fwd s.memory other v) ≡ m v
  fwd_place {v} (ok_null e) = rw (e, fwd_null s.memory other)
  fwd_place {v} (ok_start t) = in_or s.current cur_two t
      (λ q. rw (fwd_copy t (λ e. other_not (sym e ∙ q.side)))
      (eq_or (replica s.memory v) null (λ e. rw (copy_alone s.memory v e)) (λ n. rw (copy-replica s.memory v n) (h.pairs.pair v q n).same)))
      (λ q. rw (fwd_there q))

  pub fwd_ok : {v : ℕ} → Ok s.memory v → Ok s.memory (fwd s.memory other v)
  fwd_ok {v} (ok_null e) = rw (e, fwd_null s.memory other) (ok_null refl)
  fwd_ok {v} (ok_start t) = in_or s.current cur_two t
      (λ q. rw (fwd_copy t (λ e. other_not (sym e ∙ q.side)))
      (eq_or (replica s.memory v) null (λ e. rw (copy_alone s.memory v e) (ok_start t)) (λ n. rw (copy-replica s.memory v n) (ok_start (h.pairs.pair v q n).start))))
      (λ q. rw (fwd_there q) (ok_start t))

  -- the replica of a record of the current half is in the other
  pub replica_other : {v : ℕ} → (q : In s.memory s.current v) → (n : replica s.memory v ≢ null) → In s.memory other (replica s.memory v)
  replica_other q n = pair_other cur_two h.pairs q n

  -- after Allocate forwarding a clean reference gives one to the other half
  pub fwd_names : st_allocate < stage s.phase → stage s.phase ≤ st_stack_flip → {v : ℕ} → Ok s.memory v → Clean s.memory s.current v → Names other (fwd s.memory other v)
  fwd_names lo hi {v} (ok_null e) c = rw (e, fwd_null s.memory other) (λ n. absurd (n refl))
  fwd_names lo hi {v} (ok_start t) c = in_or s.current cur_two t
      (λ q. let n = has_replica lo hi q c in
      rw (fwd_copy t (λ e. other_not (sym e ∙ q.side)), copy-replica s.memory v n) (λ z. (replica_other q n).side))
      (λ q. rw (fwd_there q) (λ z. q.side))

  -- ---- fromspace and tospace
  pub from-current : stage s.phase ≢ st_reclaim → fromspace s ≡ s.current
  unfolding fromspace
  from-current n = rw (ne_eqb s.phase at_reclaim (λ e. n (stage_is e)))

  pub to_other : stage s.phase ≢ st_reclaim → tospace s ≡ other
  unfolding tospace
  to_other n = rw (from-current n)

  pub from_other : stage s.phase ≡ st_reclaim → fromspace s ≡ other
  unfolding fromspace
  from_other e = rw (eq-eqb s.phase at_reclaim (phase-is at_reclaim h.range.phases (omega arith) e))

  pub to-current : stage s.phase ≡ st_reclaim → tospace s ≡ s.current
  unfolding tospace
  to-current e = rw (from_other e) (other_other s.current cur_two)

  pub from_two : fromspace s < 2
  from_two = eq_or (stage s.phase) st_reclaim (λ e. rw (from_other e) (other_below_2 s.current)) (λ n. rw (from-current n) cur_two)
