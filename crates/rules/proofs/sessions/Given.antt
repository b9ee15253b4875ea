-- What an attach that isn't refused leaves of its session.
use Prim.Native.Nat.{ℕ, ◌≤◌}
use mathlib.Core.Path.{◌≡◌, refl, sym}
use mathlib.Core.Bool.{Bool, true, false, not}
use native.Mathlib.Omega.{arith}
use lib.Dec.{leb, eqb}
use lib.ListN.{length}
use lib.Seq.{get_or-set_same}
use borrow.Author.Tests.{leb-true}
use Rattle.rules.specs.Refusals.{check, ◌>>◌, answer, settle, done}
use Rattle.rules.specs.Cycle.{at_heap_mark}
use Rattle.rules.specs.Control.{Store, in_range, session_count, last_session}
use Rattle.rules.specs.Phases.{absent, level_of, session_at, with_session, attached_at}
use Rattle.rules.specs.Calls.{attach}
use Rattle.rules.specs.declared.Session.{Session}
use Rattle.rules.specs.Answers.{Done}
use Rattle.rules.proofs.relation.Replies.{unrefused}

-- where its tests pass, there is a session of that number
pub attached-session : (s : Store) (n share : ℕ) → length s.sessions ≡ session_count → (settle s (attach s n share)).reply ≡ answer Done
    → session_at (settle s (attach s n share)).store n ≡ attached_at (session_at s n) share (level_of s.phase) (eqb s.phase at_heap_mark)
unfolding attach with_session session_at
attached-session s n share sixteen = pick (in_range s) (leb n last_session) (not (session_at s n).attached) (λ l. set_there (leb-true n last_session l))
  where
    x : Session
    x = attached_at (session_at s n) share (level_of s.phase) (eqb s.phase at_heap_mark)

    set_there : n ≤ last_session → session_at (with_session s n x) n ≡ x
    set_there l = get_or-set_same s.sessions n x absent (omega arith)

    pick : (a b c : Bool) → (b ≡ true → session_at (with_session s n x) n ≡ x)
        → (settle s (check a 4 >> (check b 5 >> (check c 7 >> done (with_session s n x))))).reply ≡ answer Done
        → session_at (settle s (check a 4 >> (check b 5 >> (check c 7 >> done (with_session s n x))))).store n ≡ x
    pick true true true h r = h refl
    pick true true false h r = absurd (unrefused (answer Done) 7 refl (sym r))
    pick true false c h r = absurd (unrefused (answer Done) 5 refl (sym r))
    pick false b c h r = absurd (unrefused (answer Done) 4 refl (sym r))
