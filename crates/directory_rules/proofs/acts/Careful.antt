-- Acts that write only after all their tests: no refusal by a test comes after a write, on any store.
use Prim.Native.Nat.{ℕ, zero, suc, ◌+◌, ◌≤◌}
use mathlib.Core.Path.{◌≡◌, refl, sym, ap}
use mathlib.Core.Logic.{◌≢◌}
use mathlib.Core.Bool.{Bool, true, false, cond, true≢false}
use Rattle.rules.specs.Refusals.{refusal_of, Tested, refused, passed, Reply, answer, is_refusal}
use Rattle.rules.specs.Control.{Store}
use Rattle.rules.specs.Runs.{apply}
use Rattle.rules.specs.Answers.{Refused}
use Rattle.directory_rules.specs.Acts.{Ask, allocate, clear, call_of, Act, stop, give, ask, ◌>>=◌, demand, or_stop, clearing, ending, Performed, perform}
use Rattle.directory_rules.specs.Claims.{by_tests}
use Rattle.directory_rules.proofs.acts.First.{ask_keeps}
use Rattle.directory_rules.proofs.acts.Registers.{OnlyRegisters, only_same, only_then, may, early_only, no_allocation}
use Rattle.directory_rules.proofs.acts.Replies.{Fits, fits_some, fits_late, ReplyFits, refusal, other, or_stop_other, early_fits, late_fits}

-- an act that stays before its first write, or one that is past it
pub data Steady (late : Bool) {A : Type 0} : Act A → Type 0 where
  stops : (n : ℕ) → Fits late n → Steady late (stop n)
  gives : (a : A) → Steady late (give a)
  asks : (c : Ask) {f : Reply → Act A} → may late c ≡ true → ((r : Reply) → ReplyFits late r → Steady late (f r)) → Steady late (ask c f)

-- "at most three fields"
abbrev pub most_fields : ℕ
most_fields = 3

-- an act that goes from the one to the other, making n allocations, each of at most `most_fields` fields, or fewer where it is refused
pub data Careful {A : Type 0} : ℕ → Act A → Type 0 where
  fails : {n : ℕ} (m : ℕ) → Fits false m → Careful n (stop m)
  looks : {n : ℕ} (c : Ask) {f : Reply → Act A} → may false c ≡ true → ((r : Reply) → ReplyFits false r → Careful n (f r)) → Careful n (ask c f)
  makes : (k r p : ℕ) {f : Reply → Act A} → r + p ≤ most_fields → ((m : ℕ) → Fits false m → Careful 0 (f (answer (Refused m))))
      → ((x : Reply) → is_refusal x ≡ false → Steady true (f x)) → Careful 1 (ask (allocate k r p) f)
  late : {a : Act A} → Steady true a → Careful 0 a

-- ---- one act after another

pub steady_then : {late : Bool} {A B : Type 0} {a : Act A} (k : A → Act B) → Steady late a → ((x : A) → Steady late (k x)) → Steady late (a >>= k)
steady_then k (stops n e) h = stops n e
steady_then k (gives a) h = h a
steady_then k (asks c e f) h = asks c e (λ r t. steady_then k (f r t) h)

pub steady_either : {late : Bool} {A : Type 0} (b : Bool) {x y : Act A} → Steady late x → Steady late y → Steady late (cond b x y)
steady_either true h f = h
steady_either false h f = f

pub steady_demand : {late : Bool} (b : Bool) (n : ℕ) → Fits late n → Steady late (demand b n)
steady_demand true n e = gives tt
steady_demand false n e = stops n e

pub steady_other : {late : Bool} (r : Reply) → is_refusal r ≡ false → Steady late (or_stop r)
steady_other r e = rw (or_stop_other r e) (gives tt)

pub steady_or_stop : {late : Bool} {r : Reply} → ReplyFits late r → Steady late (or_stop r)
steady_or_stop (refusal n e) = stops n e
steady_or_stop (other r e) = steady_other r e

steady_clearing : {late : Bool} {A : Type 0} (m k : ℕ) {a : Act A} → Steady late a → Steady late (clearing m k a)
steady_clearing zero k h = h
steady_clearing (suc m) k h = asks (clear k) refl (λ r t. steady_clearing m (suc k) h)

steady_ending : {late : Bool} {A : Type 0} (m : ℕ) {a : Act A} → Steady late a → Steady late (ending m a)
steady_ending m (stops n e) = steady_clearing m 0 (stops n e)
steady_ending m (gives a) = steady_clearing m 0 (gives a)
steady_ending m (asks c e f) = asks c e (λ r t. steady_ending m (f r t))

-- all tests, and then the writes
pub steady_careful : {n : ℕ} {A B : Type 0} {a : Act A} (k : A → Act B) → Steady false a → ((x : A) → Careful n (k x)) → Careful n (a >>= k)
steady_careful k (stops m e) h = fails m e
steady_careful k (gives a) h = h a
steady_careful k (asks c e f) h = looks c e (λ r t. steady_careful k (f r t) h)

pub careful_late : {A B : Type 0} {n : ℕ} {a : Act A} (k : A → Act B) → Careful n a → ((x : A) → Steady true (k x)) → Careful n (a >>= k)
careful_late k (fails m e) h = fails m e
careful_late k (looks c e f) h = looks c e (λ r t. careful_late k (f r t) h)
careful_late k (makes a r p b g f) h = makes a r p b (λ m e. careful_late k (g m e) h) (λ x e. steady_then k (f x e) h)
careful_late k (late a) h = late (steady_then k a h)

careful_clearing : {n : ℕ} {A : Type 0} (m k : ℕ) {a : Act A} → Careful n a → Careful n (clearing m k a)
careful_clearing zero k h = h
careful_clearing (suc m) k h = looks (clear k) refl (λ r t. careful_clearing m (suc k) h)

pub careful_ending : {A : Type 0} {n : ℕ} (m : ℕ) {a : Act A} → Careful n a → Careful n (ending m a)
careful_ending m (fails k e) = careful_clearing m 0 (fails k e)
careful_ending m (looks c e f) = looks c e (λ r t. careful_ending m (f r t))
careful_ending m (makes k r p b g f) = makes k r p b (λ n e. careful_ending m (g n e)) (λ x e. steady_ending m (f x e))
careful_ending m (late a) = late (steady_ending m a)

-- ---- what it leaves

pub never_refused : {A : Type 0} (a : A) (n : ℕ) → passed a ≡ refused n → ⊥
never_refused {A} a n e = true≢false (ap is-passed e)
  where
    is-passed : Tested A → Bool
    is-passed (refused m) = false
    is-passed (passed x) = true

late_number : {A : Type 0} {a : Act A} → Steady true a → (s : Store) (n : ℕ) → (perform s a).result ≡ refused n → Fits true n
late_number (stops m e) s n z = rw (← (ap refusal_of z)) e
late_number (gives a) s n z = absurd (never_refused a n z)
late_number (asks c e f) s n z =
    late_number (f (apply s (call_of c)).reply (late_fits s (call_of c) (no_allocation true c e))) (apply s (call_of c)).store n z

made_number : {A : Type 0} {f : Reply → Act A} (t : Store) {x : Reply} → ReplyFits false x → (n : ℕ)
    → ((m : ℕ) → Fits false m → (perform t (f (answer (Refused m)))).result ≡ refused n → n ≢ 0)
    → ((r : Reply) → is_refusal r ≡ false → Steady true (f r)) → (perform t (f x)).result ≡ refused n → n ≢ 0
made_number t (refusal m e) n h l z = h m e z
made_number t (other x e) n h l z = fits_some true n (late_number (l x e) t n z)

-- no refusal has the number 0
pub careful_number : {A : Type 0} {k : ℕ} {a : Act A} → Careful k a → (s : Store) (n : ℕ) → (perform s a).result ≡ refused n → n ≢ 0
careful_number (fails m e) s n z = fits_some false n (rw (← (ap refusal_of z)) e)
careful_number (looks c i f) s n z = careful_number (f (apply s (call_of c)).reply (early_fits s (call_of c))) (apply s (call_of c)).store n z
careful_number (makes k r p b g f) s n z =
    let o = apply s (call_of (allocate k r p)) in
    made_number o.store (early_fits s (call_of (allocate k r p))) n (λ m e. careful_number (g m e) o.store n) f z
careful_number (late a) s n z = fits_some true n (late_number a s n z)

-- refused by its tests or its allocation, an act leaves a store to which s stands so
abbrev pub Keeps : {A : Type 0} → (Store → Store → Type 0) → Store → Performed Store A → Type 0
Keeps P s p = by_tests (refusal_of p.result) ≡ true → P s p.store

late_keeps : {A : Type 0} {a : Act A} → Steady true a → (s t : Store) → Keeps OnlyRegisters s (perform t a)
late_keeps {a = a} h s t e = absurd (no_test (perform t a).result (late_number h t) e)
  where
    no_test : {B : Type 0} (r : Tested B) → ((n : ℕ) → r ≡ refused n → Fits true n) → by_tests (refusal_of r) ≡ true → ⊥
    no_test (refused n) f b = fits_late n (f n refl) b
    no_test (passed x) f b = true≢false (sym b)

made_keeps : {A : Type 0} {f : Reply → Act A} (s t : Store) {x : Reply} → ReplyFits false x → ((n : ℕ) → x ≡ answer (Refused n) → t ≡ s)
    → ((n : ℕ) → Fits false n → Keeps OnlyRegisters s (perform s (f (answer (Refused n))))) → ((r : Reply) → is_refusal r ≡ false → Steady true (f r)) → Keeps OnlyRegisters s (perform t (f x))
made_keeps s t (refusal n e) same h l = rw (same n refl) (h n e)
made_keeps s t (other x e) same h l = late_keeps (l x e) s t

pub careful_keeps : {A : Type 0} {n : ℕ} {a : Act A} → Careful n a → (s : Store) → Keeps OnlyRegisters s (perform s a)
careful_keeps (fails n i) s = λ e. only_same s
careful_keeps (looks c i f) s = λ e.
    only_then (early_only s c i) (careful_keeps (f (apply s (call_of c)).reply (early_fits s (call_of c))) (apply s (call_of c)).store e)
careful_keeps (makes k r p b g f) s =
    let o = apply s (call_of (allocate k r p)) in
    made_keeps s o.store (early_fits s (call_of (allocate k r p))) (ask_keeps s (allocate k r p)) (λ n e. careful_keeps (g n e) s) f
careful_keeps (late a) s = late_keeps a s s
