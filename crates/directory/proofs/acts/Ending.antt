-- A call's end: the registers are cleared after its act, whether that was refused or not; and the whole of a call.
use Prim.Native.Nat.{ℕ, zero, suc, ◌+◌, ◌-◌, ◌<◌, ◌≤◌}
use mathlib.Core.Path.{◌≡◌, refl, sym, ap, ◌∙◌}
use mathlib.Core.List.{List, []}
use native.Mathlib.Numerals.{add-one}
use native.Mathlib.Omega.{arith}
use Rattle.std.specs.Prelude.{Result, Ok, Err}
use Rattle.std.specs.Result.{result_and}
use Rattle.rules.specs.Refusals.{Tested, refused, passed, Outcome}
use Rattle.rules.specs.Control.{Store}
use Rattle.rules.specs.Runs.{apply}
use Rattle.store.specs.View.{view, outcome}
use Rattle.store.specs.declared.Reply.{Reply}
use Rattle.directory_rules.specs.Table.{Request, Given, lent_by, nothing}
use Rattle.directory_rules.specs.Acts.{Act, stop, give, ask, ◌>>◌, call_of, must, safe_point, clear, clearing, ending, Performed, perform}
use Rattle.directory_rules.specs.Directory.{Left, plainly, directory_call, program_on, given_of}
use Rattle.directory.specs.declared.Refusal.{Refusal}
use Rattle.directory.specs.View.{left_in, given, given_as, left_by}
use Rattle.directory.specs.Parts.{clearing_first}
use Rattle.directory.proofs.acts.Sequence.{after}

-- the store with registers k and on cleared, n of them
abbrev pub cleared : ℕ → ℕ → Store → Store
cleared zero k s = s
cleared (suc n) k s = cleared n (suc k) (apply s (call_of (clear k))).store

clearing-stop : {A : Type 0} (n k m : ℕ) (s : Store) → perform {A = A} s (clearing n k (stop m)) ≡ record { store = cleared n k s; result = refused m }
clearing-stop zero k m s = refl
clearing-stop (suc n) k m s = clearing-stop n (suc k) m (apply s (call_of (clear k))).store

clearing-give : {A : Type 0} (n k : ℕ) (a : A) (s : Store) → perform s (clearing n k (give a)) ≡ record { store = cleared n k s; result = passed a }
clearing-give zero k a s = refl
clearing-give (suc n) k a s = clearing-give n (suc k) a (apply s (call_of (clear k))).store

clearing-all : (n : ℕ) (s : Store) → (perform s (clearing_first n)).store ≡ cleared n 0 s
clearing-all n s = ap (λ (p : Performed Store (Unit {0})). p.store) (clearing-give n 0 tt s)

-- one more register
cleared-step : (n k : ℕ) (s : Store) → k < n → cleared (n - k) k s ≡ cleared (n - (k + 1)) (k + 1) (apply s (call_of (clear k))).store
cleared-step n k s h =
    let e : n - k ≡ suc (n - (k + 1)) = omega arith in
    rw (e, add-one)

-- the loop: k registers are cleared
pub cleared-begun : (n : ℕ) (s : Store) → cleared n 0 s ≡ cleared (n - 0) 0 s
cleared-begun n s = let z : n - 0 ≡ n = omega arith in rw z

pub cleared_more : (s₀ s : Store) (n k : ℕ) (r : Reply) (h0 h1 l : List ℕ) → cleared n 0 s₀ ≡ cleared (n - k) k s → k < n
    → outcome r h0 h1 l ≡ apply s (call_of (clear k)) → cleared n 0 s₀ ≡ cleared (n - (k + 1)) (k + 1) (view r.control h0 h1 l)
cleared_more s₀ s n k r h0 h1 l e h f =
    e ∙ cleared-step n k s h ∙ ap (λ (o : Outcome Store). cleared (n - (k + 1)) (k + 1) o.store) (sym f)

pub cleared-all : (s₀ s : Store) (n k : ℕ) → cleared n 0 s₀ ≡ cleared (n - k) k s → n ≤ k → s ≡ (perform s₀ (clearing_first n)).store
cleared-all s₀ s n k e h =
    let z : n - k ≡ 0 = omega arith in
    sym (clearing-all n s₀ ∙ e ∙ rw z)

-- ---- what a call leaves, by its act

ends : {A : Type 0} (n : ℕ) (s : Store) (a : Act A)
    → perform s (ending n a) ≡ record { store = cleared n 0 (perform s a).store; result = (perform s a).result }
ends n s (stop m) = clearing-stop n 0 m s
ends n s (give a) = clearing-give n 0 a s
ends n s (ask c f) = ends n (apply s (call_of c)).store (f (apply s (call_of c)).reply)

pub directory_call_lem : (s : Store) (q : Request) → directory_call s q ≡ left_by (lent_by q) (perform s (program_on s q))
unfolding directory_call
directory_call_lem s q = ap (λ (g : Given). record { store = (perform s (program_on s q)).store; given = g }) (by (perform s (program_on s q)).result)
  where
    by : (r : Tested Given) → given_of q r ≡ given_as (lent_by q) r
    by (refused n) = refl
    by (passed a) = refl

-- the end clears registers and leaves the rest of the answer
pub ended : (ws : List ℕ) (n : ℕ) (s t u : Store) (a : Act Given) (g : Given) → record { store = t; given = g } ≡ left_by ws (perform s a)
    → u ≡ (perform t (clearing_first n)).store → record { store = u; given = g } ≡ left_by ws (perform s (ending n a))
ended ws n s t u a g e f =
    let at : t ≡ (perform s a).store = ap (λ (q : Left). q.store) e in
    let as_given : g ≡ given_as ws (perform s a).result = ap (λ (q : Left). q.given) e in
    rw (ends n s a, f, clearing-all n t, at, as_given)

-- an act that hands out nothing counts 0
pub plain_left : (s t : Store) (a : Act (Unit {0})) (r : Result (Unit {0}) Refusal) (m : Result ℕ Refusal) → left_in t r ≡ perform s a → m ≡ result_and r (Ok 0)
    → record { store = t; given = given m [] } ≡ left_by [] (perform s (plainly a))
plain_left s t a (Ok x) m e h = rw (after s a (λ u. give nothing), ← e, h)
plain_left s t a (Err f) m e h = rw (after s a (λ u. give nothing), ← e, h)

-- ---- a call with its safe point

pub call_done : (s t : Store) (p : Result (Unit {0}) Refusal) → left_in t p ≡ perform s (must safe_point) → (x : Unit {0}) → p ≡ Ok x
    → (ws : List ℕ) (a : Act Given) → left_by ws (perform s (must safe_point >> a)) ≡ left_by ws (perform t a)
call_done s t p e x h ws a = rw (after s (must safe_point) (λ u. a), ← e, h)
