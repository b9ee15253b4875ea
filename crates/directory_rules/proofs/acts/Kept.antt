-- A call refused by its tests or its allocation has changed no more than the level and registers of its session, on any store.
use Prim.Native.Nat.{ℕ}
use mathlib.Core.Bool.{false≢true}
use Rattle.rules.specs.Control.{Store}
use Rattle.rules.specs.Runs.{SafePoint, apply}
use Rattle.directory_rules.specs.Table.{Request, Open, Add, Remove, Make, Join, Leave, Members}
use Rattle.directory_rules.specs.Acts.{own_session, call_of, perform}
use Rattle.directory_rules.specs.Directory.{first_ask, inner, program, directory_call}
use Rattle.directory_rules.specs.Claims.{Beyond, TestsKeep}
use Rattle.directory_rules.proofs.acts.First.{ask_keeps}
use Rattle.directory_rules.proofs.acts.Given.{gives_program, answered, number_is}
use Rattle.directory_rules.proofs.acts.Registers.{beyond_same, beyond_then}
use Rattle.directory_rules.proofs.acts.Replies.{or_stop_either, early_fits}
use Rattle.directory_rules.proofs.acts.Careful.{Keeps, careful_keeps}
use Rattle.directory_rules.proofs.acts.Tests.{careful_inner}
use Rattle.directory_rules.proofs.acts.SafePoint.{safe_point_beyond}

-- the rest of the call, after its safe point
after-safe_point : (s : Store) (half : ℕ) (q : Request) → Keeps Beyond s (perform (apply s (SafePoint own_session)).store (inner half q))
after-safe_point s half q e = beyond_then (safe_point_beyond s) (careful_keeps (careful_inner half q) (apply s (SafePoint own_session)).store e).beyond

rest_keeps : (s : Store) (half : ℕ) (q : Request) → Keeps Beyond s (perform (apply s (call_of (first_ask q))).store (inner half q))
rest_keeps s half (Open share) = λ e. absurd (false≢true e)
rest_keeps s half (Add n) = after-safe_point s half (Add n)
rest_keeps s half (Remove n) = after-safe_point s half (Remove n)
rest_keeps s half (Make g) = after-safe_point s half (Make g)
rest_keeps s half (Join n g) = after-safe_point s half (Join n g)
rest_keeps s half (Leave n g) = after-safe_point s half (Leave n g)
rest_keeps s half (Members g out) = after-safe_point s half (Members g out)

program_keeps : (s : Store) (half : ℕ) (q : Request) → Keeps Beyond s (perform s (program half q))
unfolding program
program_keeps s half q =
    let o = apply s (call_of (first_ask q)) in
    or_stop_either (λ a. Keeps Beyond s (perform o.store a)) (λ u. inner half q) (early_fits s (call_of (first_ask q)))
    (λ n i e t. rw (ask_keeps s (first_ask q) n e) (beyond_same s)) (rest_keeps s half q)

pub tests_keep : TestsKeep
unfolding TestsKeep directory_call
tests_keep s q h =
    let half = s.lengths.half0 in
    program_keeps s half q (rw (number_is (answered (gives_program half q) s)) at h)
