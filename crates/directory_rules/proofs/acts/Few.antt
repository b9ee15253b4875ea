-- The allocations of a directory call on a store: at most one, of few fields; of some calls none.
use Prim.Native.Nat.{ℕ, suc, ◌+◌, ◌≤◌}
use mathlib.Core.Path.{◌≡◌, refl}
use mathlib.Core.Bool.{true, false}
use Rattle.rules.specs.Refusals.{Reply, answer, is_refusal}
use Rattle.rules.specs.Control.{Store}
use Rattle.rules.specs.Runs.{is_allocation, apply}
use Rattle.rules.specs.Answers.{Refused}
use Rattle.directory_rules.specs.Table.{Request, Open, Add, Remove, Make, Join, Leave, Members}
use Rattle.directory_rules.specs.Acts.{Ask, allocate, call_of, Act, stop, give, ask}
use Rattle.directory_rules.specs.Directory.{first_ask, inner, program}
use Rattle.directory_rules.specs.Claims.{allocating}
use Rattle.directory_rules.proofs.acts.Registers.{no_allocation}
use Rattle.directory_rules.proofs.acts.Replies.{Fits, ReplyFits, refusal, other, or_stop_either, early_fits, late_fits}
use Rattle.directory_rules.proofs.acts.Careful.{most_fields, Steady, stops, gives, asks, Careful, fails, looks, makes, late}
use Rattle.directory_rules.proofs.acts.Tests.{careful_inner}

-- an act that makes on s at most n allocations, each of at most `most_fields` fields
pub data Few {A : Type 0} : ℕ → Store → Act A → Type 0 where
  few-stop : {n : ℕ} {s : Store} (m : ℕ) → Few n s (stop m)
  few-give : {n : ℕ} {s : Store} (a : A) → Few n s (give a)
  few-ask : {n : ℕ} {s : Store} (c : Ask) {f : Reply → Act A} → is_allocation (call_of c) ≡ false
      → Few n (apply s (call_of c)).store (f (apply s (call_of c)).reply) → Few n s (ask c f)
  few-make : {n : ℕ} {s : Store} (k r p : ℕ) {f : Reply → Act A} → r + p ≤ most_fields
      → Few n (apply s (call_of (allocate k r p))).store (f (apply s (call_of (allocate k r p))).reply) → Few (suc n) s (ask (allocate k r p) f)

pub steady_few : {n : ℕ} {A : Type 0} {a : Act A} → Steady true a → (s : Store) → Few n s a
steady_few (stops m e) s = few-stop m
steady_few (gives a) s = few-give a
steady_few (asks c e f) s =
    let none = no_allocation true c e in
    few-ask c none (steady_few (f (apply s (call_of c)).reply (late_fits s (call_of c) none)) (apply s (call_of c)).store)

-- by the reply to an allocation
made_few : {n : ℕ} {A : Type 0} {f : Reply → Act A} (s : Store) {x : Reply} → ReplyFits false x → ((m : ℕ) → Fits false m → Few n s (f (answer (Refused m))))
    → ((r : Reply) → is_refusal r ≡ false → Steady true (f r)) → Few n s (f x)
made_few s (refusal m e) h l = h m e
made_few s (other x e) h l = steady_few (l x e) s

careful_few : {A : Type 0} {n : ℕ} {a : Act A} → Careful n a → (s : Store) → Few n s a
careful_few (fails m e) s = few-stop m
careful_few (looks c e f) s = few-ask c (no_allocation false c e) (careful_few (f (apply s (call_of c)).reply (early_fits s (call_of c))) (apply s (call_of c)).store)
careful_few (makes k r p b g f) s =
    let o = apply s (call_of (allocate k r p)) in
    few-make k r p b (made_few o.store (early_fits s (call_of (allocate k r p))) (λ m e. careful_few (g m e) o.store) f)
careful_few (late a) s = steady_few a s

-- ---- a call

pub first_none : (q : Request) → is_allocation (call_of (first_ask q)) ≡ false
first_none (Open share) = refl
first_none (Add n) = refl
first_none (Remove n) = refl
first_none (Make g) = refl
first_none (Join n g) = refl
first_none (Leave n g) = refl
first_none (Members g out) = refl

pub few-program : (s : Store) (half : ℕ) (q : Request) → Few (allocating q) s (program half q)
unfolding program
few-program s half q =
    let o = apply s (call_of (first_ask q)) in
    few-ask (first_ask q) (first_none q) (or_stop_either (Few (allocating q) o.store) (λ u. inner half q) (early_fits s (call_of (first_ask q))) (λ m i e. few-stop m) (careful_few (careful_inner half q) o.store))
