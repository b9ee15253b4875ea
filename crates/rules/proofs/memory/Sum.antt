-- Sums over the numbers below n.
use Prim.Native.Nat.{ℕ, zero, suc, ◌+◌, ◌≤◌, ◌<◌, zero-le}
use mathlib.Core.Path.{◌≡◌, refl}
use mathlib.Core.Logic.{◌≢◌}
use native.Mathlib.Nat.{not-suc-le-zero}
use native.Mathlib.Omega.{arith}
use Rattle.rules.proofs.memory.Cases.{lt_or}

unfoldable pub sum : (ℕ → ℕ) → ℕ → ℕ
sum f zero = 0
sum f (suc n) = sum f n + f n

pub sum_le : (f g : ℕ → ℕ) (n : ℕ) → ((k : ℕ) → k < n → f k ≤ g k) → sum f n ≤ sum g n
unfolding sum
sum_le f g zero h = zero-le
sum_le f g (suc n) h = let q = sum_le f g n (λ k l. h k (omega arith)) in omega (arith, h n (omega arith))

pub sum_same : (f g : ℕ → ℕ) (n : ℕ) → ((k : ℕ) → k < n → f k ≡ g k) → sum f n ≡ sum g n
unfolding sum
sum_same f g zero h = refl
sum_same f g (suc n) h = let q = sum_same f g n (λ k l. h k (omega arith)) in omega (arith, h n (omega arith))

-- where one term lacks d, the sum does
pub sum_room : (f g : ℕ → ℕ) (n j d : ℕ) → j < n → ((k : ℕ) → k < n → f k ≤ g k) → f j + d ≤ g j → sum f n + d ≤ sum g n
unfolding sum
sum_room f g zero j d l h e = absurd (not-suc-le-zero l)
sum_room f g (suc n) j d l h e =
    lt_or j n
    (λ lt. let q = sum_room f g n j d lt (λ k kl. h k (omega arith)) e in omega (arith, h n (omega arith)))
    (λ ge.
    let ej : j ≡ n = omega arith in
    let q = sum_le f g n (λ k kl. h k (omega arith)) in
    let r : f n + d ≤ g n = rw ej at e in
    omega arith)

-- one term grows by d
pub sum_bump : (f g : ℕ → ℕ) (n j d : ℕ) → j < n → g j ≡ f j + d → ((k : ℕ) → k < n → k ≢ j → g k ≡ f k) → sum g n ≡ sum f n + d
unfolding sum
sum_bump f g zero j d l e h = absurd (not-suc-le-zero l)
sum_bump f g (suc n) j d l e h =
    lt_or j n
    (λ lt. let q = sum_bump f g n j d lt e (λ k kl. h k (omega arith)) in let r = h n (omega arith) (omega arith) in omega arith)
    (λ ge.
    let ej : j ≡ n = omega arith in
    let q = sum_same g f n (λ k kl. h k (omega arith) (omega arith)) in
    let r : g n ≡ f n + d = rw ej at e in
    omega arith)

-- terms that are 0 from m on don't count
pub sum_cut : (f : ℕ → ℕ) (m n : ℕ) → m ≤ n → ((k : ℕ) → m ≤ k → f k ≡ 0) → sum f n ≡ sum f m
unfolding sum
sum_cut f m zero l z = let e : m ≡ 0 = omega arith in rw e
sum_cut f m (suc n) l z =
    lt_or m (suc n)
    (λ lt. let q = sum_cut f m n (omega arith) z in omega (arith, z n (omega arith)))
    (λ ge. let e : m ≡ suc n = omega arith in rw e)

pub sum_zero : (f : ℕ → ℕ) → sum f 0 ≡ 0
unfolding sum
sum_zero f = refl

pub sum_suc : (f : ℕ → ℕ) (n : ℕ) → sum f (suc n) ≡ sum f n + f n
unfolding sum
sum_suc f n = refl

pub sum_ones : (n : ℕ) → sum (λ k. 1) n ≡ n
unfolding sum
sum_ones zero = refl
sum_ones (suc n) = let q = sum_ones n in omega arith
