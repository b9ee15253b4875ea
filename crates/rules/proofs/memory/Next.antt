-- The reference that a half's next record gets.
use Prim.Native.Nat.{ℕ, ◌≤◌, ◌<◌}
use mathlib.Core.Path.{◌≡◌, sym, ◌∙◌}
use mathlib.Core.Logic.{◌≢◌}
use native.Mathlib.Nat.{le_refl}
use native.Mathlib.Omega.{arith}
use Rattle.rules.specs.Memory.{Memory, null, frontier, half_of, word_of, next_reference}
use Rattle.rules.proofs.memory.Encoding.{half-reference, word-reference, reference-from_2}
use Rattle.rules.proofs.memory.Records.{Start}

pub next-half : (M : Memory) (h : ℕ) → h < 2 → half_of (next_reference M h) ≡ h
unfolding next_reference
next-half M h two = half-reference h (frontier M h) two

next_word : (M : Memory) (h : ℕ) → h < 2 → word_of (next_reference M h) ≡ frontier M h
unfolding next_reference
next_word M h two = word-reference h (frontier M h) two

pub next_nonnull : (M : Memory) (h : ℕ) → next_reference M h ≢ null
unfolding next_reference
next_nonnull M h e = let l = reference-from_2 h (frontier M h) in omega arith

pub next-fresh : {M : Memory} {u : ℕ} → Start M u → (h : ℕ) → h < 2 → u ≢ next_reference M h
next-fresh {M} {u} t h two e =
    let side : half_of u ≡ h = rw e (next-half M h two) in
    let w : word_of u ≡ frontier M h = rw e (next_word M h two) in
    let b : word_of u < frontier M h = rw side at t.below in
    omega arith

pub next-same : (M M' : Memory) (h : ℕ) → frontier M' h ≡ frontier M h → next_reference M' h ≡ next_reference M h
unfolding next_reference
next-same M M' h e = rw e

-- it lies at the frontier
pub next-above : (M : Memory) (h : ℕ) → h < 2 → {u : ℕ} → u ≡ next_reference M h → (g : ℕ) → half_of u ≡ g → frontier M g ≤ word_of u
next-above M h two {u} e g side =
    let o : h ≡ g = sym (next-half M h two) ∙ rw (← e) side in
    rw (e, ← o, next_word M h two) (le_refl _)
