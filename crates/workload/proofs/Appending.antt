-- The arguments of some classes, and behind them those of others.
use Prim.Native.Nat.{ℕ, ◌+◌, ◌≤◌}
use mathlib.Core.Path.{◌≡◌, refl}
use mathlib.Core.List.{List, [], ◌∷◌, ◌++◌, append_assoc, append-nil}
use native.Mathlib.Omega.{arith}
use native.Mathlib.Nat.{add_assoc}
use lib.ListN.{length, length-append}
use lib.Seq.{sets, length-sets}
use Rattle.rules.proofs.memory.Sets.{sets-append}
use Rattle.workload.specs.Load.{xorshift32, after, argument, bytes_of}
use Rattle.workload.specs.Entries.{Placed, arguments_from, Room, arguments_into}
use Rattle.workload.specs.declared.entries.Class.{Class}
use Rattle.workload.specs.declared.entries.Class.TheVariants.{Session, Register, Global, Small, Value}

-- an argument has a byte at least
pub some_byte : (c : Class) (n : ℕ) → 1 ≤ length (bytes_of c n)
some_byte Session n = omega arith
some_byte Register n = omega arith
some_byte Global n = omega arith
some_byte Small n = omega arith
some_byte Value n = omega arith

-- those of some classes, and behind them those of others
values-append : (cs ds : List Class) (x : ℕ) → after (length (cs ++ ds)) x ≡ after (length ds) (after (length cs) x)
values-append [] ds x = refl
values-append (c ∷ cs) ds x = values-append cs ds (xorshift32 x)

pub arguments-append : (cs ds : List Class) (x : ℕ) → arguments_from (cs ++ ds) x ≡ arguments_from cs x ++ arguments_from ds (after (length cs) x)
arguments-append [] ds x = refl
arguments-append (c ∷ cs) ds x = rw (arguments-append cs ds (xorshift32 x), append_assoc)

-- ---- put into a buffer one after another

-- one argument
pub one_room : (c : Class) (x at : ℕ) (out : List ℕ) → Room (c ∷ []) x at out → at + length (bytes_of c (argument c x)) ≤ length out
one_room c x at out r = rw append-nil at r

pub placed_one : (c : Class) (x at : ℕ) (out : List ℕ) {next end : ℕ} {done : List ℕ} → next ≡ xorshift32 x
    → (end ≡ at + length (bytes_of c (argument c x))) × (done ≡ sets out at (bytes_of c (argument c x)))
    → record { next = next; out = done; end = end } ≡ arguments_into (c ∷ []) x at out
unfolding arguments_into
placed_one c x at out n e = rw (n, e.0, e.1, append-nil)

-- where some and others have room, the first have
pub first-room : (cs ds : List Class) (x at : ℕ) (out : List ℕ) → Room (cs ++ ds) x at out → Room cs x at out
first-room cs ds x at out r = omega (arith, rw (arguments-append cs ds x, length-append) at r)

module _ (cs ds : List Class) (x at : ℕ) (out : List ℕ) {p : Placed} (e : p ≡ arguments_into cs x at out) where
  -- and the others behind them
  pub more_room : Room (cs ++ ds) x at out → Room ds p.next p.end p.out
  unfolding arguments_into
  more_room r = rw (e, length-sets) (omega (arith, rw (arguments-append cs ds x, length-append) at r))

  pub placed-more : arguments_into ds p.next p.end p.out ≡ arguments_into (cs ++ ds) x at out
  unfolding arguments_into
  placed-more = rw (e, values-append cs ds x, arguments-append cs ds x, length-append, sets-append, add_assoc)
