-- The tests that open most calls, on both sides: the session (4, 5, 6) and the record in a register (8, 11, 12).
use Prim.Native.Nat.{ℕ, ◌≤◌}
use mathlib.Core.Path.{◌≡◌, refl, sym, ◌∙◌}
use mathlib.Core.Bool.{Bool, true, false, not, ◌&&◌}
use native.Mathlib.Omega.{arith}
use lib.Dec.{leb, eqb}
use borrow.Author.Tests.{leb-true, ne_eqb}
use Rattle.rules.specs.Refusals.{Tested, refused, passed, check, ◌>>=◌, ◌>>◌}
use Rattle.rules.specs.Memory.{null, followed}
use Rattle.rules.specs.Control.{Store, last_session}
use Rattle.rules.specs.Phases.{session_at, register}
use Rattle.rules.specs.Calls.{session_of, is_register, operands_of, record_of}
use Rattle.rules.specs.Free.{Free, FreeSession, free_session, free_register, free_session_of, free_record_in}
use Rattle.rules.specs.declared.Session.{Session}
use Rattle.rules.specs.declared.Operands.{Operands}
use Rattle.rules.proofs.Ranges.{in_range-tested}
use Rattle.rules.proofs.memory.Records.{Start, start_nonnull}
use Rattle.rules.proofs.invariant.Words.{Ok, ok_null, ok_start}
use Rattle.rules.proofs.invariant.Sim.{Sim}
use Rattle.rules.proofs.invariant.Following.{Followable, followed_start, follow-word}
use Rattle.rules.proofs.invariant.Spans.{Allowed}
use Rattle.rules.proofs.relation.Alike.{Both, refused_both, both_check_eq}

-- the attached session of a call, after the tests 4, 5 and 6
pub record Attached (s : Store) (n : ℕ) : Type 0 where
  pub number : n ≤ last_session
  pub attached : (session_at s n).attached ≡ true
  pub allowed : Allowed s.phase (session_at s n).level

-- what a call on the record in register k works with
abbrev worked : Session → ℕ → ℕ → Operands
worked x k o = record { level = x.level; own = register x k; other = register x o }

-- its tests in one row
record_row : {A : Type 0} (s : Store) (n k o : ℕ) (g : Operands → Tested A)
    → (record_of s n k o >>= g) ≡ (session_of s n >>= λ x. check (is_register k && is_register o) 8
    >> (check (not (eqb (register x k) null)) 11 >> (followed s.memory (register x k) >> passed (worked x k o) >>= g)))
unfolding record_of operands_of
record_row s n k o g = by_session (session_of s n)
  where
    by_tests : (y : Operands) (f : Operands → Tested Operands) (a b : Bool)
        → ((check a 8 >> (check b 11 >> passed y)) >>= f >>= g) ≡ (check a 8 >> (check b 11 >> (f y >>= g)))
    by_tests y f false b = refl
    by_tests y f true false = refl
    by_tests y f true true = refl

    by_session : (t : Tested Session)
        → ((t >>= λ x. check (is_register k && is_register o) 8 >> (check (not (eqb (register x k) null)) 11 >> passed (worked x k o)))
        >>= (λ y. followed s.memory y.own >> passed y) >>= g)
        ≡ (t >>= λ x. check (is_register k && is_register o) 8
        >> (check (not (eqb (register x k) null)) 11 >> (followed s.memory (register x k) >> passed (worked x k o) >>= g)))
    by_session (refused m) = refl
    by_session (passed x) = by_tests (worked x k o) (λ y. followed s.memory y.own >> passed y) (is_register k && is_register o) (not (eqb (register x k) null))

-- 4, 5, 6: the session of a call
module _ {K : ℕ → Type 0} {m : ℕ → ℕ} {s : Store} {f : Free} (h : Sim K m s f) where
  pub same-attached : (n : ℕ) → (free_session f n).attached ≡ (session_at s n).attached
  unfolding free_session session_at
  same-attached n = h.roots.attached n

  its_level : (n : ℕ) → (session_at s n).attached ≡ true → Allowed s.phase (session_at s n).level
  unfolding session_at
  its_level n a = h.levels.allowed n a

  pub both_session : {A B : Type 0} {R : A → B → Type 0} (n : ℕ) (k : Session → Tested A) (k' : FreeSession → Tested B)
      → (Attached s n → Both R (k (session_at s n)) (k' (free_session f n)))
      → Both R (session_of s n >>= k) (free_session_of f n >>= k')
  unfolding session_of free_session_of free_session
  both_session {A} {B} {R} n k k' c = rw (in_range-tested h.range, same-attached n)
      (go (leb n last_session) (session_at s n).attached (λ l a. c (record { number = leb-true n last_session l; attached = a; allowed = its_level n a })))
    where
      go : (a b : Bool) → (a ≡ true → b ≡ true → Both R (k (session_at s n)) (k' (free_session f n)))
          → Both R (check a 5 >> (check b 6 >> passed (session_at s n)) >>= k) (check a 5 >> (check b 6 >> passed (free_session f n)) >>= k')
      go true true w = w refl refl
      go true false w = refused_both 6 (λ e. omega arith) (λ e. omega arith)
      go false b w = refused_both 5 (λ e. omega arith) (λ e. omega arith)

  register_ok : (n r : ℕ) → Ok s.memory (register (session_at s n) r)
  unfolding register session_at
  register_ok n r = h.roots.reg_ok n r

  register-is : (n r : ℕ) → free_register (free_session f n) r ≡ m (register (session_at s n) r)
  unfolding free_register free_session register session_at
  register-is n r = h.roots.reg_is n r

  register-follow : (n r : ℕ) → Start s.memory (register (session_at s n) r) → Followable s.memory (register (session_at s n) r)
  unfolding register session_at
  register-follow n r = follow-word h (λ y. h.root_halves.regs y n r)

  -- 8, 11, 12: the record in register k of session n, with another register o; its place is the collector-free register.
  -- b is the collector-free test of the register numbers
  pub both_record : {A B : Type 0} {R : A → B → Type 0} (n k o : ℕ) (b : Bool) → (is_register k && is_register o) ≡ b
      → (g : Operands → Tested A) (g' : FreeSession → ℕ → Tested B)
      → (Attached s n → b ≡ true → Start s.memory (register (session_at s n) k) → free_register (free_session f n) k ≡ m (register (session_at s n) k)
      → Both R (g (worked (session_at s n) k o)) (g' (free_session f n) (m (register (session_at s n) k))))
      → Both R (record_of s n k o >>= g) (free_session_of f n >>= λ x. check b 8 >> (free_record_in x k >>= g' x))
  unfolding free_record_in
  both_record {A} {B} {R} n k o b e g g' c = rw (record_row s n k o g) (both_session n _ _
      (λ a. both_check_eq (is_register k && is_register o) b 8 e tt
      (λ i. go (register (session_at s n) k) _ (register-is n k) (register_ok n k) (register-follow n k) (λ t. c a (sym e ∙ i) t (register-is n k)))))
    where
      go : (v q : ℕ) → q ≡ m v → Ok s.memory v → (Start s.memory v → Followable s.memory v) → (Start s.memory v → Both R (g (worked (session_at s n) k o)) (g' (free_session f n) (m v)))
          → Both R (check (not (eqb v null)) 11 >> (followed s.memory v >> passed (worked (session_at s n) k o) >>= g))
          (check (not (eqb q null)) 11 >> passed q >>= g' (free_session f n))
      go v q d (ok_null e) f w =
          rw (d, e, h.identity.null-place) (refused_both 11 (λ e. omega arith) (λ e. omega arith))
      go v q d (ok_start t) f w =
          rw (d, ne_eqb v null (start_nonnull t), ne_eqb (m v) null (λ e. let l = h.identity.low v t in omega arith), followed_start (f t))
          (w t)
