-- The stretch: the plain fields of a record that was followed are a part of its half, which is short.
use Prim.Native.Nat.{ℕ, ◌+◌, ◌≤◌}
use mathlib.Core.Path.{◌≡◌, sym, refl}
use mathlib.Core.Bool.{Bool, true, false, cond}
use mathlib.Core.List.{List}
use native.Mathlib.Omega.{arith}
use lib.Dec.{eqb}
use lib.ListN.{length}
use Rattle.rules.specs.Refusals.{passed}
use Rattle.rules.specs.Memory.{Memory, half, half_of, word_of, size, follow, header}
use Rattle.rules.specs.Control.{Store, most_length}
use Rattle.rules.specs.Calls.{operands_of}
use Rattle.rules.specs.declared.Operands.{Operands}
use Rattle.rules.specs.declared.Followed.TheVariants.{Sound}
use Rattle.rules.proofs.Ranges.{InRange, fronts}
use Rattle.heap.proofs.Soundness.{Found, found}
use Rattle.heap.proofs.Placing.{frontier-within}
use Rattle.store.proofs.tests.Opening.{worked}

either_small : (b : Bool) (h0 h1 : List ℕ) (m : ℕ) → length h0 ≤ m → length h1 ≤ m → length (cond b h0 h1) ≤ m
either_small true h0 h1 m x y = x
either_small false h0 h1 m x y = y

pub half-small : {s : Store} → InRange s → (h : ℕ) → length (half s.memory h) ≤ most_length
unfolding half
half-small {s} k h =
    either_small (eqb h 0) s.memory.half0 s.memory.half1 most_length
    (omega (arith, k.lent0, k.most)) (omega (arith, k.lent1, k.equal, k.most))

found-size : {M : Memory} {v at r p : ℕ} → Found M v at r p → at + header + r + p ≡ word_of v + size M v
unfolding size
found-size d = omega (arith, d.place, d.refs, d.plains)

pub stretch_within : {x : Operands} {at r p : ℕ} (s : Store) (n k o : ℕ) → passed x ≡ operands_of s n k o → Sound at r p ≡ follow s.memory x.own
    → (at + header + r + p ≤ length (half s.memory (half_of x.own))) × (length (half s.memory (half_of x.own)) ≤ most_length)
stretch_within {x} s n k o e f =
    let w = (worked s n k o (sym e)).known in
    let q = fronts w in
    let d = found s.memory x.own f refl in
    let b = frontier-within s.memory.half0 s.memory.half1 s.memory.frontier0 s.memory.frontier1 x.own q.0 q.1 in
    (omega (arith, found-size d, d.below, b), half-small w (half_of x.own))
