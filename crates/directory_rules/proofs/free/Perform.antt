-- Acts on the collector-free store; every allocation of an act is fed the same: the number that the table is fed.
use Prim.Native.Nat.{ℕ}
use mathlib.Core.Bool.{cond}
use lib.Dec.{eqb}
use Rattle.rules.specs.Refusals.{Tested, refused, passed, check, ◌>>=◌, ◌>>◌, Outcome, answer, settle, done, done_or}
use Rattle.rules.specs.Calls.{is_register, is_shape}
use Rattle.rules.specs.Runs.{is_session, fitted}
use Rattle.rules.specs.Free.{Free, free_apply, free_session_of, free_allocated}
use Rattle.directory_rules.specs.Acts.{own_session, Ask, attach, safe_point, allocate, load, store, read, write, move, clear, get, put, call_of, Act, stop, give, ask, Performed}

-- an allocation whose last tests, those of `allocation_numbers`, give the number that is fed, or pass where that is 0
unfoldable pub allocate_fed : Free → ℕ → ℕ → ℕ → ℕ → Tested (Outcome Free)
allocate_fed f k r p fed = do
  x ← free_session_of f own_session
  check (is_register k) 8
  check (is_shape r p) 10
  check (eqb fed 0) fed
  done (free_allocated f own_session k r p)

-- only an allocation goes by what is fed; a safe point changes nothing there, and is refused where the session isn't attached
abbrev unfed : Free → Ask → Outcome Free
unfed f c =
    cond (is_session (call_of c)) (free_apply f (call_of c) fitted) (record { store = f; reply = answer (done_or (free_session_of f own_session)) })

abbrev pub free_ask : ℕ → Free → Ask → Outcome Free
free_ask fed f (attach share) = unfed f (attach share)
free_ask fed f safe_point = unfed f safe_point
free_ask fed f (allocate k r p) = settle f (allocate_fed f k r p fed)
free_ask fed f (load to k i) = unfed f (load to k i)
free_ask fed f (store k i from) = unfed f (store k i from)
free_ask fed f (read k i) = unfed f (read k i)
free_ask fed f (write k i a) = unfed f (write k i a)
free_ask fed f (move to from) = unfed f (move to from)
free_ask fed f (clear k) = unfed f (clear k)
free_ask fed f (get to) = unfed f (get to)
free_ask fed f (put from) = unfed f (put from)

abbrev pub free_perform : {A : Type 0} → ℕ → Free → Act A → Performed Free A
free_perform fed f (stop n) = record { store = f; result = refused n }
free_perform fed f (give a) = record { store = f; result = passed a }
free_perform fed f (ask c k) = free_perform fed (free_ask fed f c).store (k (free_ask fed f c).reply)
