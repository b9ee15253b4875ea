-- The call allocate: it ends alike on both stores, with 17 and 14 where the collector-free store is fed that, with 16 where as many birth
-- numbers are used as it has records.
use Prim.Native.Nat.{ℕ, suc, ◌+◌, ◌≤◌, ◌<◌}
use mathlib.Core.Path.{◌≡◌, refl, sym, ap}
use mathlib.Core.Bool.{Bool, true, false}
use mathlib.Core.List.{[], ◌∷◌, ◌++◌}
use lib.Dec.{leb}
use native.Mathlib.Omega.{arith}
use lib.ListN.{get_or, set, length, length-set}
use lib.Seq.{get_or-set_same}
use borrow.Author.Tests.{leb-true, le-leb}
use Rattle.rules.specs.Refusals.{passed, check, ◌>>◌, settle, done}
use Rattle.rules.specs.Memory.{most_count, size_of}
use Rattle.rules.specs.Control.{Store, with_memory, with_births, last_session, last_register}
use Rattle.rules.specs.Phases.{absent, session_at, with_session, with_registers, with_charge}
use Rattle.rules.specs.Barriers.{allocation_room, next_birth, allocated, allocated_reference}
use Rattle.rules.specs.Calls.{session_of, is_register, is_shape, within_share, number_left, with_register, charged, allocate}
use Rattle.rules.specs.Runs.{Fed, fed_by}
use Rattle.rules.specs.Claims.{shares_left}
use Rattle.rules.specs.Free.{Free, fed_share, fed_room, free_allocate, with_free_register}
use Rattle.rules.proofs.Ranges.{both, in_range-tested}
use Rattle.rules.proofs.invariant.Sim.{Sim}
use Rattle.rules.proofs.invariant.Accounts.{charged_sim}
use Rattle.rules.proofs.invariant.Room.{left-charged, paid}
use Rattle.rules.proofs.invariant.Spent.{spent_grows, grows_then, session_grows}
use Rattle.rules.proofs.relation.Tracks.{tracked}
use Rattle.rules.proofs.relation.Alike.{Alike, passed_both, both_check, both_check_eq}
use Rattle.rules.proofs.relation.Tests.{Attached, both_session}
use Rattle.rules.proofs.sessions.Session.{register_sim}
use Rattle.rules.proofs.sessions.Registers.{register_grows}
use Rattle.rules.proofs.allocation.FreeRecords.{with_records, blank_record}
use Rattle.rules.proofs.allocation.Allocated.{allocation}

module _ {K : ℕ → Type 0} {m : ℕ → ℕ} {s : Store} {f : Free} (h : Sim K m s f) (n k r p : ℕ) where
  abbrev q : ℕ
  q = suc (length f.records)

  abbrev level : ℕ
  level = (session_at s n).level

  -- ---- what is fed: whether the test of the share passes, and where it does, whether that of room does; the test after it makes no difference
  session_passes : Attached s n → session_of s n ≡ passed (session_at s n)
  unfolding session_of
  session_passes a = rw (in_range-tested h.range, le-leb n last_session a.number, a.attached)

  fed_by-share : (t : Store) (a b c : Bool) → fed_share (fed_by (settle s (check a 17 >> (check b 14 >> (check c 16 >> done t)))).reply) ≡ a
  fed_by-share t true true true = refl
  fed_by-share t true true false = refl
  fed_by-share t true false c = refl
  fed_by-share t false b c = refl

  fed_by-room : (t : Store) (b c : Bool) → fed_room (fed_by (settle s (check b 14 >> (check c 16 >> done t))).reply) ≡ b
  fed_by-room t true true = refl
  fed_by-room t true false = refl
  fed_by-room t false c = refl

  fed_share_lem : Attached s n → is_register k ≡ true → is_shape r p ≡ true
      → fed_share (fed_by (settle s (allocate s n k r p)).reply) ≡ within_share (session_at s n) r p
  unfolding allocate
  fed_share_lem a i j = rw (session_passes a, i, j) (fed_by-share _ (within_share (session_at s n) r p) (allocation_room s level r p) (number_left s.births))

  fed_room_lem : Attached s n → is_register k ≡ true → is_shape r p ≡ true → within_share (session_at s n) r p ≡ true
      → fed_room (fed_by (settle s (allocate s n k r p)).reply) ≡ allocation_room s level r p
  unfolding allocate
  fed_room_lem a i j e = rw (session_passes a, i, j, e) (fed_by-room _ (allocation_room s level r p) (number_left s.births))

  -- ---- the record written, its reference put in the register, and its words charged
  abbrev placed : Store
  placed = with_births (with_memory s (allocated s level r p)) (next_birth s)

  abbrev held : Store
  held = with_register placed n k (allocated_reference s level)

  -- the share leaves so much less
  charged-left : Attached s n → within_share (session_at s n) r p ≡ true → shares_left (charged held n (size_of r p)).sessions + size_of r p ≤ shares_left s.sessions
  unfolding within_share charged with_register with_session session_at
  charged-left a e =
      let x = get_or s.sessions n absent in
      let y = with_registers x (set x.registers k (allocated_reference s level)) in
      let l : n < length s.sessions = omega (arith, a.number, h.roots.sessions) in
      let le : x.charge + size_of r p ≤ x.share = leb-true _ _ e in
      let z = get_or (set s.sessions n y) n absent in
      let same : z ≡ y = get_or-set_same s.sessions n y absent l in
      omega (
        arith,
        left-charged s.sessions n 0 y l refl (omega arith) (omega arith),
        left-charged (set s.sessions n y) n (size_of r p) (with_charge z (z.charge + size_of r p)) (rw (length-set s.sessions n y) l) refl refl (rw same le),
      )

  written : Attached s n → is_register k ≡ true → is_shape r p ≡ true → within_share (session_at s n) r p ≡ true → allocation_room s level r p ≡ true
      → Alike K q m s (done (charged held n (size_of r p))) (done (with_free_register (with_records f (f.records ++ blank_record r p ∷ [])) n k q))
  unfolding charged with_register with_session tracked session_at
  written a i j share room =
      let b = both (leb r most_count) (leb p most_count) j in
      let w = allocation h level r p (leb-true r most_count b.0) (leb-true p most_count b.1) a.allowed room in
      passed_both (record {
        place = tracked q m s.memory (allocated s level r p);
        sim = charged_sim (register_sim w.sim n k a.number (leb-true k last_register i) a.attached (w.fits _)) n (size_of r p);
        reply = refl;
        tracks = λ u. refl;
        spent = spent_grows (grows_then w.grows (grows_then (register_grows placed n k (allocated_reference s level)) (session_grows held n _ (λ e z. z))));
        fronts = paid (size_of r p) w.fronts (charged-left a share);
      })

  -- for any fed value that says whether these tests pass
  fed_alike : (fed : Fed) → (Attached s n → is_register k ≡ true → is_shape r p ≡ true → fed_share fed ≡ within_share (session_at s n) r p)
      → (Attached s n → is_register k ≡ true → is_shape r p ≡ true → within_share (session_at s n) r p ≡ true → fed_room fed ≡ allocation_room s level r p)
      → Alike K q m s (allocate s n k r p) (free_allocate f n k r p fed)
  unfolding allocate free_allocate
  fed_alike fed d e = both_session h n _ _ (λ a.
      both_check (is_register k) 8 tt (λ i.
      both_check (is_shape r p) 10 tt (λ j.
      both_check_eq _ _ 17 (sym (d a i j)) tt (λ share.
      both_check_eq _ _ 14 (sym (e a i j share)) tt (λ room.
      both_check_eq _ _ 16 (ap number_left h.births) tt (λ left. written a i j share room))))))

  pub allocate_alike : Alike K (suc (length f.records)) m s (allocate s n k r p) (free_allocate f n k r p (fed_by (settle s (allocate s n k r p)).reply))
  allocate_alike = fed_alike _ fed_share_lem fed_room_lem
