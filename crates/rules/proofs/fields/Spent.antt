-- Fields written leave the bound on marking as it is: no header changes.
use Prim.Native.Nat.{ℕ, ◌≤◌, ◌<◌}
use mathlib.Core.Logic.{◌≢◌}
use native.Mathlib.Omega.{arith}
use borrow.Author.Tests.{eq-eqb, ne_eqb}
use Rattle.rules.specs.Memory.{null, put, size, header}
use Rattle.rules.specs.Control.{Store, with_memory}
use Rattle.rules.specs.Barriers.{put_both}
use Rattle.rules.proofs.memory.Cases.{eq_or}
use Rattle.rules.proofs.memory.Records.{Start, Filled}
use Rattle.rules.proofs.memory.Put.{put-field}
use Rattle.rules.proofs.invariant.Spent.{Grows, grows_then}
use Rattle.rules.proofs.frames.Change.{put_frame, size-kept}
use Rattle.rules.proofs.frames.Spent.{fields_grow}

module _ {s : Store} (two : s.current < 2) (f : Filled s.memory) {v : ℕ} (o : Start s.memory v) (j x : ℕ) (p : header ≤ j) (l : j < size s.memory v) where
  -- word j of v
  put_grows : Grows s (with_memory s (put s.memory v j x))
  put_grows = fields_grow two (put_frame (put-field f o j x p l) (omega arith)) (λ a i q. rw q.1 p)

-- and word k of t, where that isn't null
pub puts_grow : {s : Store} → s.current < 2 → Filled s.memory → {v : ℕ} → Start s.memory v → (j x : ℕ) → header ≤ j → j < size s.memory v
    → (t k y : ℕ) → header ≤ k → (t ≢ null → Start s.memory t × (k < size s.memory t)) → Grows s (with_memory s (put_both s.memory v j x t k y))
unfolding put_both
puts_grow {s} two f {v} o j x p l t k y q c = eq_or t null
    (λ e. rw (eq-eqb t null e) (put_grows two f o j x p l))
    (λ n. let r = put-field f o j x p l in
    rw (ne_eqb t null n) (grows_then (put_grows two f o j x p l)
    (put_grows {s = with_memory s (put s.memory v j x)} two r.filled (r.to (c n).0) k y q (rw (size-kept (put_frame r (omega arith)) (c n).0) (c n).1))))
