-- Acts one after another on the collector-free store, and the registers cleared at the end of a call.
use Prim.Native.Nat.{ℕ, zero, suc, ◌+◌, ◌≤◌}
use mathlib.Core.Path.{◌≡◌, refl, sym, ap, ◌∙◌}
use native.Mathlib.Omega.{arith}
use Rattle.rules.specs.Memory.{null}
use Rattle.rules.specs.Control.{register_count}
use Rattle.rules.specs.Refusals.{Tested, refused, passed}
use Rattle.rules.specs.Free.{Free}
use Rattle.directory_rules.specs.Acts.{clear, Act, stop, give, ask, ◌>>=◌, clearing, ending, Performed}
use Rattle.directory_rules.proofs.free.Perform.{free_ask, free_perform}
use Rattle.directory_rules.proofs.free.Session.{Ready, set_reg}
use Rattle.directory_rules.proofs.free.Registers.{ready_set, nulled}
use Rattle.directory_rules.proofs.free.Must.{asked}
use Rattle.directory_rules.proofs.free.Steps.{clear_step}

same_store : {A : Type 0} {p q : Performed Free A} → p ≡ q → p.store ≡ q.store
same_store {A} e = ap (λ (p : Performed Free A). p.store) e

same-result : {A : Type 0} {p q : Performed Free A} → p ≡ q → p.result ≡ q.result
same-result {A} e = ap (λ (p : Performed Free A). p.result) e

pub then_passed : {A B : Type 0} (fed : ℕ) (f : Free) (a : Act A) (k : A → Act B) {g : Free} {x : A}
    → free_perform fed f a ≡ record { store = g; result = passed x } → free_perform fed f (a >>= k) ≡ free_perform fed g (k x)
then_passed fed f (stop n) k e = let r = same-result e in let z : ◌≡◌ {A = ℕ} 0 1 = cc in absurd (omega arith)
then_passed fed f (give a) k e = let s = same_store e in let r = same-result e in cc
then_passed fed f (ask c h) k e = then_passed fed (free_ask fed f c).store (h (free_ask fed f c).reply) k e

pub then_refused : {A B : Type 0} (fed : ℕ) (f : Free) (a : Act A) (k : A → Act B) {g : Free} {n : ℕ}
    → free_perform fed f a ≡ record { store = g; result = refused n }
    → free_perform fed f (a >>= k) ≡ record { store = g; result = refused n }
then_refused fed f (stop n) k e = let s = same_store e in let r = same-result e in cc
then_refused fed f (give a) k e = let r = same-result e in let z : ◌≡◌ {A = ℕ} 0 1 = cc in absurd (omega arith)
then_refused fed f (ask c h) k e = then_refused fed (free_ask fed f c).store (h (free_ask fed f c).reply) k e

-- registers cleared before an act
clearing_nulls : {A : Type 0} (fed : ℕ) {g : Free} → Ready g → (n k : ℕ) (a : Act A) → n + k ≤ register_count
    → free_perform fed g (clearing n k a) ≡ free_perform fed (nulled n k g) a
clearing_nulls fed ready zero k a few = refl
clearing_nulls fed {g} ready (suc n) k a few =
    asked fed g (clear k) (λ r. clearing n (suc k) a) (clear_step fed ready k (omega arith))
    ∙ clearing_nulls fed {g = set_reg g k null} (ready_set ready k null (omega arith)) n (suc k) a (omega arith)

-- before an act that makes no call
last_nulls : {A : Type 0} (fed : ℕ) (f : Free) (n : ℕ) (a : Act A) {t : Tested A} → ((x : Free) → free_perform fed x a ≡ record { store = x; result = t })
    → {g : Free} {r : Tested A} → free_perform fed f a ≡ record { store = g; result = r } → Ready g → n ≤ register_count
    → free_perform fed f (clearing n 0 a) ≡ record { store = nulled n 0 g; result = r }
last_nulls fed f n a quiet {g} e ready few =
    let same = sym (quiet f) ∙ e in
    rw (same_store same, ← same-result same) (clearing_nulls fed ready n 0 a (omega arith) ∙ quiet (nulled n 0 g))

-- the end of a call, refused or not
pub ending_clears : {A : Type 0} (fed : ℕ) (f : Free) (n : ℕ) (a : Act A) {g : Free} {r : Tested A}
    → free_perform fed f a ≡ record { store = g; result = r } → Ready g → n ≤ register_count
    → free_perform fed f (ending n a) ≡ record { store = nulled n 0 g; result = r }
ending_clears fed f n (stop m) e ready few = last_nulls fed f n (stop m) (λ x. refl) e ready few
ending_clears fed f n (give a) e ready few = last_nulls fed f n (give a) (λ x. refl) e ready few
ending_clears fed f n (ask c h) e ready few = ending_clears fed (free_ask fed f c).store n (h (free_ask fed f c).reply) e ready few
