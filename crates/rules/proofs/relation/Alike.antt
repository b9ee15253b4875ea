-- What is shown of a session call: it ends alike on the store and on the collector-free store. The two rules have the same tests in
-- the same order; those that only the store has (4 and 12) pass.
use Prim.Native.Nat.{ℕ}
use mathlib.Core.Path.{◌≡◌, refl, ◌∙◌}
use mathlib.Core.Logic.{◌≢◌}
use mathlib.Core.Bool.{Bool, true, false, not, ◌||◌}
use native.Mathlib.Omega.{arith}
use lib.Dec.{T, eqb, T_not}
use Rattle.rules.specs.Refusals.{Tested, refused, passed, check, ◌>>=◌, ◌>>◌, Outcome, Reply}
use Rattle.rules.specs.Memory.{frontier}
use Rattle.rules.specs.Control.{Store}
use Rattle.rules.specs.Free.{Free}
use Rattle.rules.proofs.invariant.Sim.{Sim}
use Rattle.rules.proofs.invariant.Room.{Fronts, still}
use Rattle.rules.proofs.invariant.Spent.{SpentKept}
use Rattle.rules.proofs.relation.Tracks.{Tracks, tracks_stay}

-- ---- two rules: refused alike, with neither 4 nor 12, or passed with what is related

pub data Both {A B : Type 0} (R : A → B → Type 0) : Tested A → Tested B → Type 0 where
  refused_both : (n : ℕ) → n ≢ 4 → n ≢ 12 → Both R (refused n) (refused n)
  passed_both : {a : A} {b : B} → R a b → Both R (passed a) (passed b)

-- a refusal number that a run may give: neither 4 nor 12
abbrev pub may_refuse : ℕ → Bool
may_refuse n = not (eqb n 4 || eqb n 12)

may_not : (n k : ℕ) → T (may_refuse n) → T (not (may_refuse k)) → n ≢ k
may_not n k t u e = T_not (may_refuse k) u (rw e at t)

-- the same test on both sides, with such a number
pub both_check : {A B : Type 0} {R : A → B → Type 0} (b : Bool) (n : ℕ) → T (may_refuse n) → {t : Tested A} {u : Tested B}
    → (b ≡ true → Both R t u) → Both R (check b n >> t) (check b n >> u)
both_check true n x c = c refl
both_check false n x c = refused_both n (may_not n 4 x tt) (may_not n 12 x tt)

-- a test that is equal on both sides
pub both_check_eq : {A B : Type 0} {R : A → B → Type 0} (b c : Bool) (n : ℕ) → b ≡ c → T (may_refuse n) → {t : Tested A} {u : Tested B}
    → (b ≡ true → Both R t u) → Both R (check b n >> t) (check c n >> u)
both_check_eq b c n e x k = rw (← e) (both_check b n x k)

-- tests that pass on the store's side alone: a rule t that passes with a
pub both_passes : {A B C : Type 0} {R : B → C → Type 0} (t : Tested A) (a : A) → t ≡ passed a → (k : A → Tested B) {u : Tested C}
    → Both R (k a) u → Both R (t >>= k) u
both_passes t a e k c = rw e c

-- a plan with its commit on the store's side
pub both_commit : {A B C : Type 0} {R : B → C → Type 0} (j : A → B) {t : Tested A} {u : Tested C}
    → Both (λ a. R (j a)) t u → Both R (t >>= λ a. passed (j a)) u
both_commit j (refused_both n x y) = refused_both n x y
both_commit j (passed_both r) = passed_both r

-- two rules one after the other, and what is related in another way
pub both_then : {A B C D : Type 0} {R : A → B → Type 0} {S : C → D → Type 0} {t : Tested A} {u : Tested B} (k : A → Tested C) (l : B → Tested D)
    → Both R t u → ((a : A) (b : B) → R a b → Both S (k a) (l b)) → Both S (t >>= k) (u >>= l)
both_then k l (refused_both n x y) f = refused_both n x y
both_then k l (passed_both {a} {b} r) f = f a b r

pub both_map : {A B : Type 0} {R S : A → B → Type 0} {t : Tested A} {u : Tested B} → ((a : A) (b : B) → R a b → S a b) → Both R t u → Both S t u
both_map f (refused_both n x y) = refused_both n x y
both_map f (passed_both {a} {b} r) = passed_both (f a b r)

-- ---- a session call on both stores: where it passes, with the same reply, the invariant kept, and the bound on marking too, and how it moves
-- the frontiers; q is the place of a record that the call may have written

pub record Left (K : ℕ → Type 0) (q : ℕ) (m : ℕ → ℕ) (s : Store) (o : Outcome Store) (p : Outcome Free) : Type 0 where
  pub place : ℕ → ℕ
  pub sim : Sim K place o.store p.store
  pub reply : o.reply ≡ p.reply
  pub tracks : Tracks q m place s.memory o.store.memory
  pub spent : SpentKept s o.store
  pub fronts : Fronts s o.store

abbrev pub Alike : (K : ℕ → Type 0) (q : ℕ) (m : ℕ → ℕ) (s : Store) → Tested (Outcome Store) → Tested (Outcome Free) → Type 0
Alike K q m s = Both (Left K q m s)

-- the same of a call that moves neither a record nor a frontier
pub record Unmoved (K : ℕ → Type 0) (m : ℕ → ℕ) (s : Store) (o : Outcome Store) (p : Outcome Free) : Type 0 where
  pub sim : Sim K m o.store p.store
  pub reply : o.reply ≡ p.reply
  pub front0 : frontier o.store.memory 0 ≡ frontier s.memory 0
  pub front1 : frontier o.store.memory 1 ≡ frontier s.memory 1
  pub spent : SpentKept s o.store

module _ {K : ℕ → Type 0} {m : ℕ → ℕ} {s : Store} where
  pub unmoved_left : {q : ℕ} {o : Outcome Store} {p : Outcome Free} → Unmoved K m s o p → Left K q m s o p
  unmoved_left {q} {o} w = record {
    place = m;
    sim = w.sim;
    reply = w.reply;
    tracks = tracks_stay q m s.memory o.store.memory (omega (arith, w.front0)) (omega (arith, w.front1));
    spent = w.spent;
    fronts = still (omega (arith, w.front0)) (omega (arith, w.front1));
  }

  -- one such call after another
  pub unmoved_then : {o u : Outcome Store} {p v : Outcome Free} → Unmoved K m s o p → Unmoved K m o.store u v → Unmoved K m s u v
  unmoved_then a b = record {
    sim = b.sim;
    reply = b.reply;
    front0 = b.front0 ∙ a.front0;
    front1 = b.front1 ∙ a.front1;
    spent = λ n k. b.spent n (a.spent n k);
  }

-- a call that ends with one reply on both sides
module _ {K : ℕ → Type 0} {m : ℕ → ℕ} {s t : Store} {g : Free} {r r' : Reply} (h : Sim K m t g) (e : r ≡ r')
    (a : frontier t.memory 0 ≡ frontier s.memory 0) (b : frontier t.memory 1 ≡ frontier s.memory 1) (c : SpentKept s t) where
  pub unmoved_done : Unmoved K m s (record { store = t; reply = r }) (record { store = g; reply = r' })
  unmoved_done = record { sim = h; reply = e; front0 = a; front1 = b; spent = c }

  pub left-done : {q : ℕ} → Left K q m s (record { store = t; reply = r }) (record { store = g; reply = r' })
  left-done = unmoved_left unmoved_done

  pub alike_done : {q : ℕ} → Alike K q m s (passed (record { store = t; reply = r })) (passed (record { store = g; reply = r' }))
  alike_done = passed_both left-done
