-- Claim 1: a refused call hands the store back as it came.
-- A rule answers a refusal only by a test that fails, and `settle` then hands back what came in.
use Prim.Native.Nat.{ℕ}
use mathlib.Core.Path.{◌≡◌, refl}
use Rattle.rules.specs.Refusals.{answer, Outcome}
use Rattle.rules.specs.Control.{Store}
use Rattle.rules.specs.Runs.{Call}
use Rattle.rules.specs.Claims.{RefusalsKeep}
use Rattle.rules.specs.Answers.{Refused}
use Rattle.rules.proofs.relation.Rules.{CallEnds, refusal, success, call_ends}
use Rattle.rules.proofs.relation.Replies.{unrefused}

keeps : {c : Call} {s : Store} {o : Outcome Store} → CallEnds c s o → (n : ℕ) → o.reply ≡ answer (Refused n) → o.store ≡ s
keeps (refusal k a) n e = refl
keeps (success o h) n e = absurd (unrefused o.reply n h.reply e)

pub refusals_keep : RefusalsKeep
unfolding RefusalsKeep
refusals_keep s c = keeps (call_ends s c)
