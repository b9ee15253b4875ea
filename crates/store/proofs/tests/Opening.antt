-- A call of a session, and one on the record in a register: what its tests say once they passed.
use Prim.Native.Nat.{ℕ, ◌≤◌}
use mathlib.Core.Path.{◌≡◌, sym}
use mathlib.Core.Bool.{◌&&◌}
use lib.Dec.{leb}
use lib.ListN.{length}
use borrow.Author.Tests.{leb-true}
use Rattle.rules.specs.Refusals.{passed, tests_of}
use Rattle.rules.specs.Memory.{followed}
use Rattle.rules.specs.Control.{Store, last_register, last_session}
use Rattle.rules.specs.Calls.{session_of, is_register, operands_of, record_of}
use Rattle.rules.specs.Claims.{CanFollow}
use Rattle.rules.specs.declared.Operands.{Operands}
use Rattle.rules.proofs.Ranges.{InRange, both, in_session, fronts, after_check}
use Rattle.rules.proofs.memory.Followed.{passed-follow}
use Rattle.heap.proofs.Passed.{bind_passed, same-passed}
use Rattle.store.proofs.tests.Results.{known}

-- the frontiers are within the halves, and the list's end is within the list
abbrev pub Bounded : Store → Type 0
Bounded s =
    (s.memory.frontier0 ≤ length s.memory.half0) × (s.memory.frontier1 ≤ length s.memory.half1)
    × (s.list.tail ≤ s.lengths.list) × (s.lengths.list ≡ length s.list.words)

bounded : {s : Store} → InRange s → Bounded s
bounded k = let f = fronts k in (f.0, f.1, k.ends, k.lent2)

-- 4, 5 and 6 passed
pub session_bounds : (s : Store) (n : ℕ) → passed tt ≡ tests_of (session_of s n) → Bounded s
session_bounds s n e = bounded (known s n e).known

-- what holds where 4, 5, 6, 8 and 11 passed
pub record Worked (s : Store) (n k o : ℕ) : Type 0 where
  pub known : InRange s
  pub number : n ≤ last_session
  pub first : k ≤ last_register
  pub second : o ≤ last_register

pub worked : {x : Operands} (s : Store) (n k o : ℕ) → operands_of s n k o ≡ passed x → Worked s n k o
unfolding operands_of
worked s n k o e =
    let a = bind_passed (session_of s n) _ e in
    let b = both (leb k last_register) (leb o last_register) (after_check (is_register k && is_register o) 8 _ a.2).0 in
    let c = in_session s n a.1 in
    record { known = c.known; number = c.number; first = leb-true k 7 b.0; second = leb-true o 7 b.1 }

pub held_bounds : {x : Operands} (s : Store) (n k o : ℕ) → passed x ≡ operands_of s n k o → Bounded s
held_bounds s n k o e = bounded (worked s n k o (sym e)).known

-- what a call on a record that can be followed knows of it
pub recorded : {x : Operands} (s : Store) (n k o : ℕ) → record_of s n k o ≡ passed x → Worked s n k o × CanFollow s.memory x.own
unfolding record_of
recorded s n k o e =
    let a = bind_passed (operands_of s n k o) _ e in
    let b = bind_passed (followed s.memory a.0.own) _ a.2 in
    (worked s n k o a.1, rw (same-passed b.2) at (passed-follow s.memory a.0.own b.1))

pub recorded_bounds : {x : Operands} (s : Store) (n k o : ℕ) → passed x ≡ record_of s n k o → Bounded s
recorded_bounds s n k o e = bounded (recorded s n k o (sym e)).0.known
