-- What is counted of a record: whether it is marked, its size where it has a replica, and the steps that marking it has taken.
use Prim.Native.Nat.{ℕ, ◌≤◌}
use mathlib.Core.Path.{◌≡◌}
use mathlib.Core.Logic.{◌≢◌}
use native.Mathlib.Omega.{arith}
use borrow.Author.Tests.{eq-eqb, ne_eqb}
use Rattle.rules.specs.Memory.{Memory, null, white, black, colour, replica, refs, size}
use Rattle.rules.proofs.memory.Cases.{eq_or}
use Rattle.rules.proofs.memory.Records.{size-fields}
use Rattle.rules.proofs.invariant.Words.{marks, copied, work, done}

-- ---- in another memory with the same words
pub marks_same : (M M' : Memory) (v : ℕ) → colour M' v ≡ colour M v → marks M' v ≡ marks M v
unfolding marks
marks_same M M' v e = rw e

pub copied_same : (M M' : Memory) (v : ℕ) → replica M' v ≡ replica M v → size M' v ≡ size M v → copied M' v ≡ copied M v
unfolding copied
copied_same M M' v e z = rw (e, z)

-- ---- how much it is
pub marks_none : (M : Memory) (v : ℕ) → colour M v ≡ white → marks M v ≡ 0
unfolding marks
marks_none M v e = rw e

pub marks_one : (M : Memory) (v : ℕ) → colour M v ≢ white → marks M v ≡ 1
unfolding marks
marks_one M v d = rw (ne_eqb (colour M v) white d)

pub marks_most : (M : Memory) (v : ℕ) → marks M v ≤ 1
marks_most M v = eq_or (colour M v) white (λ e. omega (arith, marks_none M v e)) (λ d. omega (arith, marks_one M v d))

pub copied_none : (M : Memory) (v : ℕ) → replica M v ≡ null → copied M v ≡ 0
unfolding copied
copied_none M v e = rw (eq-eqb (replica M v) null e)

pub copied_size : (M : Memory) (v : ℕ) → replica M v ≢ null → copied M v ≡ size M v
unfolding copied
copied_size M v d = rw (ne_eqb (replica M v) null d)

pub copied_le : (M : Memory) (v : ℕ) → copied M v ≤ size M v
copied_le M v = eq_or (replica M v) null (λ e. omega (arith, copied_none M v e)) (λ d. omega (arith, copied_size M v d))

pub done_none : (M : Memory) (v : ℕ) → colour M v ≢ black → done M v ≡ 0
unfolding done
done_none M v d = rw (ne_eqb (colour M v) black d)

pub done-black : (M : Memory) (v : ℕ) → colour M v ≡ black → done M v ≡ work M v
unfolding done
done-black M v e = rw e

pub done_work : (M : Memory) (v : ℕ) → done M v ≤ work M v
done_work M v = eq_or (colour M v) black (λ e. omega (arith, done-black M v e)) (λ d. omega (arith, done_none M v d))

pub work_size : (M : Memory) (v : ℕ) → work M v ≤ size M v
work_size M v = omega (arith, size-fields M v)

-- black stays black
pub done_grows : (M M' : Memory) (v : ℕ) → (colour M v ≡ black → colour M' v ≡ black) → refs M' v ≡ refs M v → done M v ≤ done M' v
done_grows M M' v b e = eq_or (colour M v) black
    (λ c. omega (arith, done-black M v c, done-black M' v (b c)))
    (λ d. omega (arith, done_none M v d))
