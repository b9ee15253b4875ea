-- Claim 10: shares and charges, call by call; and that allocations within their shares find room, where what the shares leave had room once.
use Prim.Native.Nat.{ℕ, suc, ◌+◌, ◌≤◌, ◌<◌}
use mathlib.Core.Path.{◌≡◌, refl, sym, ap, ◌∙◌}
use mathlib.Core.Logic.{◌≢◌}
use mathlib.Core.Bool.{true}
use mathlib.Core.List.{List, [], ◌∷◌}
use native.Mathlib.Omega.{arith}
use lib.Dec.{leb}
use lib.ListN.{get_or, length, take}
use borrow.Author.Tests.{leb-true, le-leb}
use Rattle.rules.specs.Refusals.{answer}
use Rattle.rules.specs.Memory.{size_of, frontier, half}
use Rattle.rules.specs.Cycle.{at_rest, at_reclaim, stage}
use Rattle.rules.specs.Control.{Store, session_count, last_session}
use Rattle.rules.specs.Phases.{absent, session_at}
use Rattle.rules.specs.Barriers.{room_in, allocation_room}
use Rattle.rules.specs.Calls.{within_share}
use Rattle.rules.specs.Runs.{Call, Allocate, Step, apply, after}
use Rattle.rules.specs.Tracking.{Beside, new_beside, beside_call, beside}
use Rattle.rules.specs.Claims.{Made, SharesStay, ShareGiven, EndsReclaim, ChargesStay, ChargeGrows, ChargesEnd, used_words, all_shares, shares_left, SharesKept, ShareAfterReclaim, RoomForShares}
use Rattle.rules.specs.declared.Session.{Session}
use Rattle.rules.specs.Answers.{Refused}
use Rattle.rules.proofs.memory.Cases.{bool_or}
use Rattle.rules.proofs.invariant.Stages.{st_stack_flip, st_reclaim, phase-is, in_stage}
use Rattle.rules.proofs.invariant.Range.{half_length}
use Rattle.rules.proofs.invariant.Laws.{cur_two}
use Rattle.rules.proofs.invariant.Room.{Roomy, left_less, left_one, roomy-current, room-kept}
use Rattle.rules.proofs.relation.Rules.{call_stays}
use Rattle.rules.proofs.sessions.Given.{attached-session}
use Rattle.rules.proofs.allocation.Outcome.{never_14, charge_grows}
use Rattle.rules.proofs.phases.Uncharged.{reclaim_uncharges}
use Rattle.rules.proofs.runs.Call.{one_call}
use Rattle.rules.proofs.runs.Runs.{Holds, run_holds, beside-store}
use Rattle.rules.proofs.runs.Claims.{holds}

-- ---- call by call

-- sixteen sessions in every run
sixteen : (s : Store) → Made s → (cs : List Call) → length (after s cs).sessions ≡ session_count
sixteen s made cs = rw (← beside-store (new_beside s) cs) (holds s made cs).roots.sessions

pub shares_stay : SharesStay
unfolding SharesStay
shares_stay s c n a = (call_stays s c).shares n a

pub share-given : ShareGiven
unfolding ShareGiven
share-given s made cs n share e = ap (λ x. x.share) (attached-session (after s cs) n share (sixteen s made cs) e)

pub charges_stay : ChargesStay
unfolding ChargesStay
charges_stay s c n a b = (call_stays s c).charges n a (λ e p z. b e (p, ap (λ d. (apply s d).store.phase) (sym e) ∙ z))

pub charge_grows_once : ChargeGrows
unfolding ChargeGrows
charge_grows_once s made cs n k r p e = charge_grows (after s cs) n k r p (sixteen s made cs) e

pub charges_end : ChargesEnd
unfolding ChargesEnd
charges_end s n e = reclaim_uncharges s n e.0 e.1

-- ---- room along a list of calls

-- the call c of s isn't the step that ends Reclaim
abbrev GoesOn : Store → Call → Type 0
GoesOn s c = s.phase ≡ at_reclaim → (apply s c).store.phase ≢ at_rest

-- a call that changes no share and doesn't end Reclaim
call-room : {K : ℕ → Type 0} (b : Beside) → Holds K b → (c : Call) → ((n : ℕ) → (session_at (apply b.store c).store n).share ≡ (session_at b.store n).share)
    → GoesOn b.store c → Roomy b.store → Roomy (apply b.store c).store
unfolding session_at
call-room b h c same on r =
    let k = one_call b h c in
    let s = b.store in
    let t = (apply s c).store in
    room-kept k.sim k.fronts (call_stays s c).lengths
    (left_less s.sessions t.sessions (k.sim.roots.sessions ∙ sym h.roots.sessions) same (λ n. (call_stays s c).rises n (λ e. on))) (cur_two h) r

calls_room : {K : ℕ → Type 0} (b : Beside) → Holds K b → (ds : List Call) → SharesKept b.store ds
    → ((i : ℕ) → (after b.store (take i ds)).phase ≡ at_reclaim → (after b.store (take (suc i) ds)).phase ≢ at_rest)
    → Roomy b.store → Roomy (after b.store ds)
calls_room b h [] same on r = r
calls_room b h (c ∷ ds) same on r =
    calls_room (beside_call b c) (one_call b h c).sim ds (λ i n. same (suc i) n ∙ sym (same 1 n)) (λ i. on (suc i))
    (call-room b h c (same 1) (on 0) r)

-- where there is that room, no allocation answers 14
module _ {K : ℕ → Type 0} (b : Beside) (h : Holds K b) (room : Roomy b.store) (n r p : ℕ) where
  abbrev s : Store
  s = b.store

  fits : (g : ℕ) → g < 2 → n ≤ last_session → within_share (session_at s n) r p ≡ true → room_in s.memory g r p ≡ true
  unfolding session_at within_share room_in
  fits g two l e =
      let x = get_or s.sessions n absent in
      le-leb (frontier s.memory g + size_of r p) (length (half s.memory g)) (omega (
        arith,
        room g two,
        left_one s.sessions n (omega (arith, h.roots.sessions)),
        leb-true (x.charge + size_of r p) x.share e,
        half_length h.range g two,
      ))

  room-found : (k : ℕ) → (apply b.store (Allocate n k r p)).reply ≢ answer (Refused 14)
  unfolding allocation_room
  room-found k = never_14 s n k r p (λ l e. bool_or (leb (session_at s n).level 2)
      (λ z. rw z (fits s.current (cur_two h) l e))
      (λ z. rw (z, fits 0 (omega arith) l e, fits 1 (omega arith) l e)))

-- ---- the claims about room

-- outside Reclaim, by the stage
outside : {K : ℕ → Type 0} (b : Beside) → Holds K b → b.store.phase ≢ at_reclaim → stage b.store.phase ≤ st_stack_flip
outside b h d =
    let e : stage b.store.phase ≢ st_reclaim = λ e. d (phase-is at_reclaim h.range.phases (omega arith) e) in
    omega (arith, in_stage h.range)

-- from a moment outside Reclaim on
from_there : {K : ℕ → Type 0} (b : Beside) → Holds K b → b.store.phase ≢ at_reclaim → used_words b.store + shares_left b.store.sessions ≤ b.store.lengths.half0
    → (ds : List Call) → SharesKept b.store ds
    → ((i : ℕ) → (after b.store (take i ds)).phase ≡ at_reclaim → (after b.store (take (suc i) ds)).phase ≢ at_rest)
    → (n k r p : ℕ) → (apply (after b.store ds) (Allocate n k r p)).reply ≢ answer (Refused 14)
from_there b h d fits ds same on n k r p =
    let room : Roomy (beside b ds).store = rw (beside-store b ds) (calls_room b h ds same on (roomy-current h (outside b h d) fits)) in
    rw (← beside-store b ds) (room-found (beside b ds) (run_holds b h ds) room n r p k)

pub room_for_shares : RoomForShares
unfolding RoomForShares
room_for_shares s made cs = rw (← beside-store (new_beside s) cs) (from_there (beside (new_beside s) cs) (holds s made cs))

-- where nothing is charged, the shares leave themselves
left-all : (xs : List Session) → ((n : ℕ) → (get_or xs n absent).charge ≡ 0) → shares_left xs ≡ all_shares xs
left-all [] e = refl
left-all (x ∷ xs) e = omega (arith, e 0, left-all xs (λ n. e (suc n)))

-- from the end of Reclaim on
from_end : {K : ℕ → Type 0} (b : Beside) → Holds K b → EndsReclaim b.store
    → let t = (apply b.store Step).store in
    used_words t + all_shares t.sessions ≤ t.lengths.half0
    → (ds : List Call) → SharesKept t ds → ((i : ℕ) → (after t (take i ds)).phase ≢ at_reclaim)
    → (n k r p : ℕ) → (apply (after t ds) (Allocate n k r p)).reply ≢ answer (Refused 14)
unfolding session_at ChargesEnd
from_end b h e fits ds same on =
    let t = (apply b.store Step).store in
    from_there (beside_call b Step) (one_call b h Step).sim (λ z. omega (arith, sym e.1 ∙ z))
    (rw (left-all t.sessions (λ n. charges_end b.store n e)) fits) ds same (λ i z. absurd (on i z))

pub share-after-reclaim : ShareAfterReclaim
unfolding ShareAfterReclaim
share-after-reclaim s made cs = rw (← beside-store (new_beside s) cs) (from_end (beside (new_beside s) cs) (holds s made cs))
