-- The safe point of the directory's session changes no more than the session's level, on any store.
use mathlib.Core.Path.{refl}
use mathlib.Core.Bool.{Bool, true, false}
use Rattle.rules.specs.Refusals.{done, Tested, passed, check, ◌>>=◌, ◌>>◌, Outcome}
use Rattle.rules.specs.Control.{Store, in_range, last_session}
use Rattle.rules.specs.Phases.{level_of, session_at, with_session, with_level}
use Rattle.rules.specs.Calls as calls
use Rattle.rules.specs.Runs.{SafePoint, apply}
use Rattle.rules.specs.declared.Session.{Session}
use Rattle.directory_rules.specs.Acts.{own_session}
use Rattle.directory_rules.specs.Claims.{Beyond}
use Rattle.directory_rules.proofs.acts.Ends.{Ends, fails, ends, settled}
use Rattle.directory_rules.proofs.acts.Registers.{beyond_same, beyond_session}
use lib.Dec.{leb}

-- a call's session is the one of its number
session_ends : {P : Store → Type 0} (a b c : Bool) (x : Session) (k : Session → Tested (Outcome Store)) → Ends P (k x)
    → Ends P ((do check a 4; check b 5; check c 6; passed x) >>= k)
session_ends true true true x k h = h
session_ends true true false x k h = fails 6
session_ends true false c x k h = fails 5
session_ends false b c x k h = fails 4

safe_point_ends : (s : Store) → Ends (Beyond s) (calls.safe_point s own_session)
unfolding calls.safe_point calls.session_of
safe_point_ends s =
    session_ends (in_range s) (leb own_session last_session) (session_at s own_session).attached (session_at s own_session)
    (λ x. done (with_session s own_session (with_level x (level_of s.phase)))) (ends _ (beyond_session s (with_level (session_at s own_session) (level_of s.phase)) refl refl refl refl))

pub safe_point_beyond : (s : Store) → Beyond s (apply s (SafePoint own_session)).store
safe_point_beyond s = settled {P = Beyond s} s (safe_point_ends s) (beyond_same s)
