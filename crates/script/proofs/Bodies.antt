-- What stands at a place: nothing, a whole entry, or a cut one.
use Prim.Native.Nat.{ℕ, ◌+◌, ◌-◌, ◌≤◌, ◌<◌}
use mathlib.Core.Path.{◌≡◌, refl}
use mathlib.Core.List.{List}
use native.Mathlib.Omega.{arith}
use borrow.Author.Tests.{le-leb, lt-leb}
use lib.ListN.{length, get_or, take, drop}
use Rattle.std.specs.Prelude.{Option, Result, Ok, Err, IsErr}
use Rattle.script.specs.declared.entries.BadEntry.{BadEntry}
use Rattle.script.specs.declared.entries.Command.{Command}
use Rattle.script.specs.Commands.{found}
use Rattle.rules.specs.Script.{call_of, body_at, call_then, entry_at, ended, bad}

pub past_end : (bs : List ℕ) (i : ℕ) → length bs ≤ i → entry_at bs i ≡ ended
unfolding entry_at
past_end bs i past = rw (le-leb (length bs) i past)

module _ (bs : List ℕ) (i : ℕ) (inside : i < length bs) where
  pub whole : get_or bs i 0 ≤ length bs - (i + 1) →
      entry_at bs i
      ≡ call_then (call_of (take (i + 1 + get_or bs i 0 - (i + 1)) (drop (i + 1) bs))) (i + 1 + get_or bs i 0)
  unfolding entry_at body_at
  whole fits =
      let end : i + 1 + get_or bs i 0 ≤ length bs = omega arith in
      let size : i + 1 + get_or bs i 0 - (i + 1) ≡ get_or bs i 0 = omega arith in
      rw (lt-leb _ _ inside, le-leb _ _ end, size)

  pub cut : length bs - (i + 1) < get_or bs i 0 → entry_at bs i ≡ bad
  unfolding entry_at body_at
  cut short =
      let end : length bs < i + 1 + get_or bs i 0 = omega arith in
      rw (lt-leb _ _ inside, lt-leb _ _ end)

-- an error is an entry that is 15
pub found_err : (r : Result (Option (Command × ℕ)) BadEntry) → IsErr r → found r ≡ bad
found_err (Ok x) e = cc
found_err (Err b) e = refl
