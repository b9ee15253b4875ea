-- What the tests 4, 5 and 6 say of a store: the record test as a record of facts, and back; the session of a call.
use Prim.Native.Nat.{ℕ, zero, suc, ◌/◌, ◌≤◌}
use mathlib.Core.Path.{◌≡◌, refl}
use mathlib.Core.Bool.{Bool, true, false, cond, ◌&&◌, ◌||◌, false≢true}
use mathlib.Core.List.{List, [], ◌∷◌}
use native.Mathlib.Omega.{arith}
use lib.Dec.{leb, eqb}
use lib.ListN.{length, get_or}
use borrow.Author.Tests.{leb-true, eqb-true, le-leb, eq-eqb}
use Rattle.rules.specs.Memory.{header}
use Rattle.rules.specs.Refusals.{Tested, refused, passed, check, refusal_of, ◌>>◌}
use Rattle.rules.specs.Control.{Store, in_range, same_lengths, lengths_allowed, half_allowed, list_allowed, walk_limit, levels_in_range, global_count, last_session, last_level, most_fields, least_length, most_length}
use Rattle.rules.specs.Cycle.{last_phase, at_root_mark, at_root_flip}
use Rattle.rules.specs.Phases.{session_at, absent}
use Rattle.rules.specs.Calls.{session_of}
use Rattle.rules.specs.declared.Session.{Session}

-- ---- the control record test

-- every number of the control record is in its range, and the lent lengths are those at making
pub record InRange (s : Store) : Type 0 where
  pub lent0 : s.lengths.half0 ≡ length s.memory.half0
  pub lent1 : s.lengths.half1 ≡ length s.memory.half1
  pub lent2 : s.lengths.list ≡ length s.list.words
  pub least : least_length ≤ s.lengths.half0
  pub most : s.lengths.half0 ≤ most_length
  pub equal : s.lengths.half0 ≡ s.lengths.half1
  pub enough : s.lengths.half0 / header ≤ s.lengths.list
  pub half : s.current ≤ 1
  pub front0 : s.memory.frontier0 ≤ s.lengths.half0
  pub front1 : s.memory.frontier1 ≤ s.lengths.half0
  pub phases : s.phase ≤ last_phase
  pub places : s.walk.place ≤ walk_limit s.phase s.lengths.half0
  pub fields : s.walk.field ≤ most_fields
  pub begins : s.list.head ≤ s.list.tail
  pub ends : s.list.tail ≤ s.lengths.list
  pub levels : (n : ℕ) → (session_at s n).level ≤ last_level

-- both of two tests that passed together
pub both : (a b : Bool) → (a && b) ≡ true → (a ≡ true) × (b ≡ true)
both true b e = (refl, e)
both false b e = absurd (false≢true e)

pub together : {a b : Bool} → a ≡ true → b ≡ true → (a && b) ≡ true
together {a = true} p q = q
together {a = false} p q = p

levels-known : (xs : List Session) → levels_in_range xs ≡ true → (n : ℕ) → (get_or xs n absent).level ≤ last_level
levels-known [] e n = omega arith
levels-known (x ∷ xs) e zero = leb-true _ _ (both (leb x.level last_level) _ e).0
levels-known (x ∷ xs) e (suc n) = levels-known xs (both (leb x.level last_level) _ e).1 n

levels-tested : (xs : List Session) → ((n : ℕ) → (get_or xs n absent).level ≤ last_level) → levels_in_range xs ≡ true
levels-tested [] k = refl
levels-tested (x ∷ xs) k = together (le-leb _ _ (k 0)) (levels-tested xs (λ n. k (suc n)))

-- refusal 4 did not come
pub in_range_lem : (s : Store) → in_range s ≡ true → InRange s
unfolding in_range same_lengths lengths_allowed half_allowed list_allowed session_at
in_range_lem s e =
    let a = both _ _ e in
    let b = both _ _ a.0 in
    let c = both _ _ b.0 in
    let d = both _ _ c.0 in
    let f = both _ _ d.0 in
    let g = both _ _ f.0 in
    let h = both _ _ g.0 in
    let i = both _ _ h.0 in
    let j = both _ _ i.0 in
    let k = both _ _ j.0 in
    let l = both _ _ k.0 in
    let m = both _ _ l.0 in
    let o = both _ _ k.1 in
    let p = both _ _ o.0 in
    let q = both _ _ p.0 in
    record {
      lent0 = eqb-true _ _ m.0;
      lent1 = eqb-true _ _ m.1;
      lent2 = eqb-true _ _ l.1;
      least = leb-true _ _ q.0;
      most = leb-true _ _ q.1;
      equal = eqb-true _ _ p.1;
      enough = leb-true _ _ o.1;
      half = leb-true _ _ j.1;
      front0 = leb-true _ _ i.1;
      front1 = leb-true _ _ h.1;
      phases = leb-true _ _ g.1;
      places = leb-true _ _ f.1;
      fields = leb-true _ _ d.1;
      begins = leb-true _ _ c.1;
      ends = leb-true _ _ b.1;
      levels = levels-known s.sessions a.1;
    }

-- refusal 4 does not come
pub in_range-tested : {s : Store} → InRange s → in_range s ≡ true
unfolding in_range same_lengths lengths_allowed half_allowed list_allowed session_at
in_range-tested {s} k =
    together (together (together (together (together (together (together (together (together (together
    (together (together (eq-eqb _ _ k.lent0) (eq-eqb _ _ k.lent1)) (eq-eqb _ _ k.lent2))
    (together (together (together (le-leb _ _ k.least) (le-leb _ _ k.most)) (eq-eqb _ _ k.equal)) (le-leb _ _ k.enough)))
    (le-leb _ _ k.half)) (le-leb _ _ k.front0)) (le-leb _ _ k.front1)) (le-leb _ _ k.phases))
    (le-leb _ _ k.places)) (le-leb _ _ k.fields)) (le-leb _ _ k.begins)) (le-leb _ _ k.ends))
    (levels-tested s.sessions k.levels)

-- the walk place in every phase
limit_small : (b : Bool) (n : ℕ) → least_length ≤ n → n ≤ most_length → cond b global_count n ≤ most_length
limit_small true n l m = omega arith
limit_small false n l m = m

pub place-small : {s : Store} → InRange s → s.walk.place ≤ most_length
unfolding walk_limit
place-small {s} k = let l = limit_small (eqb s.phase at_root_mark || eqb s.phase at_root_flip) _ k.least k.most in omega arith

-- the frontiers are within the lent halves
pub fronts : {s : Store} → InRange s
    → (s.memory.frontier0 ≤ length s.memory.half0) × (s.memory.frontier1 ≤ length s.memory.half1)
fronts k = (omega arith, omega arith)

-- ---- the session tests

-- the attached session x of a call with session number n
pub record InSession (s : Store) (n : ℕ) (x : Session) : Type 0 where
  pub known : InRange s
  pub number : n ≤ last_session
  pub attached : (session_at s n).attached ≡ true
  pub session : x ≡ session_at s n

-- a test that passed, and what comes after it
pub after_check : {A : Type 0} {x : A} (b : Bool) (n : ℕ) (rest : Tested A) → (check b n >> rest) ≡ passed x → (b ≡ true) × (rest ≡ passed x)
after_check true n rest e = (refl, e)
after_check false n rest e = absurd (let z : ◌≡◌ {A = ℕ} 0 1 = cc in omega arith)

pub in_session : {x : Session} (s : Store) (n : ℕ) → session_of s n ≡ passed x → InSession s n x
unfolding session_of
in_session {x} s n e =
    let a = after_check (in_range s) 4 _ e in
    let b = after_check (leb n last_session) 5 _ a.1 in
    let c = after_check (session_at s n).attached 6 _ b.1 in
    record { known = in_range_lem s a.0; number = leb-true _ _ b.0; attached = c.0; session = cc }

-- the same of the refusal number: where it is 0 the session is there, and where it isn't the call is refused with it
pub session-passed : (s : Store) (n : ℕ) → refusal_of (session_of s n) ≡ 0 → session_of s n ≡ passed (session_at s n)
unfolding session_of
session-passed s n e = passing (in_range s) (leb n last_session) (session_at s n).attached e
  where
    passing : (a b c : Bool) → refusal_of (check a 4 >> (check b 5 >> (check c 6 >> passed (session_at s n)))) ≡ 0
        → (check a 4 >> (check b 5 >> (check c 6 >> passed (session_at s n)))) ≡ passed (session_at s n)
    passing true true true e = refl
    passing true true false e = absurd (omega arith)
    passing true false c e = absurd (omega arith)
    passing false b c e = absurd (omega arith)

pub refused_with : {A : Type 0} (t : Tested A) → (refusal_of t ≡ 0 → ⊥) → t ≡ refused (refusal_of t)
refused_with (refused n) e = refl
refused_with (passed a) e = absurd (e refl)
