-- Which calls allocate, and how much; the first store call of each; and that no refusal has the number 0: the claims.
use Prim.Native.Nat.{ℕ, zero, suc, ◌≤◌}
use mathlib.Core.Path.{◌≡◌, refl, sym, ap}
use mathlib.Core.Logic.{◌≢◌}
use mathlib.Core.Bool.{true, false}
use mathlib.Core.List.{List}
use native.Mathlib.Omega.{arith}
use lib.ListN.{length, get_or}
use Rattle.rules.specs.Refusals.{refusal_of, Tested, refused, passed, Reply, answer, is_refusal}
use Rattle.rules.specs.Control.{Store}
use Rattle.rules.specs.Runs.{Step, is_allocation, apply}
use Rattle.rules.specs.Answers.{Refused}
use Rattle.directory_rules.specs.Table.{Request, Given}
use Rattle.directory_rules.specs.Acts.{Ask, attach, safe_point, allocate, load, store, read, write, move, clear, get, put, call_of, Act, perform, calls_made}
use Rattle.directory_rules.specs.Directory.{first_ask, inner, program, program_on, given_of, directory_call}
use Rattle.directory_rules.specs.Claims.{sized, allocations, allocating, first_call, Allocates, ZeroIsDone}
use Rattle.directory_rules.proofs.acts.First.{first_call_lem}
use Rattle.directory_rules.proofs.acts.Registers.{no_allocation}
use Rattle.directory_rules.proofs.acts.Replies.{Fits, fits_some, ReplyFits, refusal, other, or_stop_either, early_fits}
use Rattle.directory_rules.proofs.acts.Careful.{most_fields, Steady, Careful, fails, looks, makes, late, never_refused, careful_number}
use Rattle.directory_rules.proofs.acts.Tests.{careful_inner}
use Rattle.directory_rules.proofs.acts.Few.{Few, few-stop, few-give, few-ask, few-make, steady_few, first_none, few-program}

sized_none : (c : Ask) (xs : List ℕ) → is_allocation (call_of c) ≡ false → sized (call_of c) xs ≡ xs
sized_none (attach share) xs e = refl
sized_none safe_point xs e = refl
sized_none (allocate k r p) xs e = cc
sized_none (load to k i) xs e = refl
sized_none (store k i from) xs e = refl
sized_none (read k i) xs e = refl
sized_none (write k i a) xs e = refl
sized_none (move to from) xs e = refl
sized_none (clear k) xs e = refl
sized_none (get to) xs e = refl
sized_none (put from) xs e = refl

few_made : {A : Type 0} {n : ℕ} {s : Store} {a : Act A} → Few n s a → length (allocations (calls_made s a)) ≤ n
few_made (few-stop m) = omega arith
few_made (few-give a) = omega arith
few_made (few-ask c e f) = rw (sized_none c _ e) (few_made f)
few_made (few-make k r p h f) = omega (arith, few_made f)

small_made : {A : Type 0} {n : ℕ} {s : Store} {a : Act A} → Few n s a → (i : ℕ) → get_or (allocations (calls_made s a)) i 0 ≤ most_fields
small_made (few-stop m) i = omega arith
small_made (few-give a) i = omega arith
small_made (few-ask c e f) i = rw (sized_none c _ e) (small_made f i)
small_made (few-make k r p h f) zero = h
small_made (few-make k r p h f) (suc i) = small_made f i

-- ---- exactly as many where it isn't refused

abbrev Exact : {A : Type 0} → ℕ → Store → Act A → Type 0
Exact {A} n s a = (x : A) → (perform s a).result ≡ passed x → length (allocations (calls_made s a)) ≡ n

steady_none : {A : Type 0} {a : Act A} → Steady true a → (s : Store) → length (allocations (calls_made s a)) ≡ 0
steady_none {a = a} h s = let l : length (allocations (calls_made s a)) ≤ 0 = few_made (steady_few h s) in omega arith

made_exact : {A : Type 0} {f : Reply → Act A} (s : Store) {x : Reply} → ReplyFits false x → ((m : ℕ) → Fits false m → Exact 0 s (f (answer (Refused m))))
    → ((r : Reply) → is_refusal r ≡ false → Steady true (f r)) → Exact 0 s (f x)
made_exact s (refusal m e) h l = h m e
made_exact s (other r e) h l = λ y z. steady_none (l r e) s

careful_exact : {A : Type 0} {n : ℕ} {a : Act A} → Careful n a → (s : Store) → Exact n s a
careful_exact (fails m e) s x z = absurd (never_refused x m (sym z))
careful_exact (looks c e f) s x z =
    rw (sized_none c _ (no_allocation false c e)) (careful_exact (f (apply s (call_of c)).reply (early_fits s (call_of c))) (apply s (call_of c)).store x z)
careful_exact (makes k r p b g f) s x z =
    let o = apply s (call_of (allocate k r p)) in
    omega (arith, made_exact o.store (early_fits s (call_of (allocate k r p))) (λ m e. careful_exact (g m e) o.store) f x z)
careful_exact (late h) s x z = steady_none h s

module _ (s : Store) (half : ℕ) (q : Request) where
  program_exact : Exact (allocating q) s (program half q)
  unfolding program
  program_exact x z =
      let o = apply s (call_of (first_ask q)) in
      rw (sized_none (first_ask q) _ (first_none q))
      (or_stop_either (Exact (allocating q) o.store) (λ u. inner half q) (early_fits s (call_of (first_ask q)))
      (λ m i e y w. absurd (never_refused y m (sym w))) (careful_exact (careful_inner half q) o.store) x z)

  program-number : (n : ℕ) → (perform s (program half q)).result ≡ refused n → n ≢ 0
  unfolding program
  program-number =
      let o = apply s (call_of (first_ask q)) in
      or_stop_either (λ a. (n : ℕ) → (perform o.store a).result ≡ refused n → n ≢ 0) (λ u. inner half q) (early_fits s (call_of (first_ask q)))
      (λ m i e n z. fits_some false n (rw (← (ap refusal_of z)) i)) (careful_number (careful_inner half q) o.store)

  program-first : get_or (calls_made s (program half q)) 0 Step ≡ first_call q
  unfolding program
  program-first = first_call_lem q

-- ---- the claims

pub zero-is-done : ZeroIsDone
unfolding ZeroIsDone
zero-is-done s q n z = program-number s s.lengths.half0 q n z

pub allocates : Allocates
unfolding Allocates directory_call
allocates s q =
    let half = s.lengths.half0 in
    let f = few-program s half q in
    (few_made f, λ e. where_done (perform s (program_on s q)).result refl e, small_made f, program-first s half q)
  where
    where_done : (r : Tested Given) → (perform s (program_on s q)).result ≡ r → (given_of q r).number ≡ 0 → length (allocations (calls_made s (program_on s q))) ≡ allocating q
    where_done (refused n) z e = absurd (program-number s s.lengths.half0 q n z e)
    where_done (passed x) z e = program_exact s s.lengths.half0 q x z
