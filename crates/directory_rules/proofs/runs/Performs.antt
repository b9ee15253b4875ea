-- An act on the store of a run does what it does on the collector-free store.
use Prim.Native.Nat.{ℕ, ◌≤◌}
use mathlib.Core.Path.{◌≡◌, refl, sym, subst, ◌∙◌}
use mathlib.Core.Bool.{true≢false, cond}
use mathlib.Core.List.{List, [], ◌∷◌, ◌++◌, append-nil, append_assoc}
use native.Mathlib.Omega.{arith}
use Rattle.rules.specs.Control.{Store}
use Rattle.rules.specs.Runs.{Call, apply}
use Rattle.rules.specs.Free.{Free}
use Rattle.rules.specs.Claims.{Made}
use Rattle.directory_rules.specs.Acts.{allocate, call_of, Act, stop, give, ask, perform, calls_made, refused_by, allocation_number}
use Rattle.directory_rules.proofs.acts.Few.{Few, few-stop, few-give, few-ask, few-make}
use Rattle.directory_rules.proofs.free.Perform.{free_perform}
use Rattle.directory_rules.proofs.runs.Beside.{Here, FedRight, asked_both}

-- ---- what is fed is as the store answers

-- for every allocation that an act makes on the store t
abbrev pub FedAll : {A : Type 0} → ℕ → Store → Act A → Type 0
FedAll fed t (stop n) = Unit {0}
FedAll fed t (give x) = Unit {0}
FedAll fed t (ask c k) = FedRight fed t c × FedAll fed (apply t (call_of c)).store (k (apply t (call_of c)).reply)

-- the calls that it makes come behind those before it
pub record Performs {A : Type 0} (s : Store) (cs : List Call) (t : Store) (f : Free) (fed : ℕ) (a : Act A) : Type 0 where
  pub result : (perform t a).result ≡ (free_perform fed f a).result
  pub here : Here s (cs ++ calls_made t a) (perform t a).store (free_perform fed f a).store

pub performs : {A : Type 0} {s t : Store} {cs : List Call} {f : Free} → Here s cs t f → Made s → (fed : ℕ) (a : Act A) → FedAll fed t a
    → Performs s cs t f fed a
performs here made fed (stop n) right = record { result = refl; here = rw append-nil here }
performs here made fed (give x) right = record { result = refl; here = rw append-nil here }
performs {t = t} {cs = cs} here made fed (ask c k) right =
    let x = asked_both here made fed c right.0 in
    let r = (apply t (call_of c)).reply in
    let p = performs {t = (apply t (call_of c)).store} x.here made fed (k r) right.1 in
    let joined = append_assoc cs (call_of c ∷ []) (calls_made (apply t (call_of c)).store (k r)) in
    record { result = rw (free_perform, ← x.reply) p.result; here = rw (free_perform, ← x.reply) (rw joined at p.here) }

-- ---- an act of at most one allocation

-- where there is none, anything may be fed
none_fed : {A : Type 0} {n : ℕ} {t : Store} {a : Act A} → Few n t a → n ≡ 0 → (fed : ℕ) → FedAll fed t a
none_fed (few-stop m) z fed = tt
none_fed (few-give x) z fed = tt
none_fed (few-ask c e f) z fed = (λ yes. absurd (true≢false (sym yes ∙ e)), none_fed f z fed)
none_fed (few-make k r p e f) z fed = absurd (omega arith)

-- where there is one, its own answer
pub few_fed : {A : Type 0} {n : ℕ} {t : Store} {a : Act A} → Few n t a → n ≤ 1 → FedAll (allocation_number t a) t a
few_fed (few-stop m) one = tt
few_fed (few-give x) one = tt
few_fed {t = t} (few-ask c {f = k} e f) one =
    let o = apply t (call_of c) in (
      λ yes. absurd (true≢false (sym yes ∙ e)),
      subst (λ b. FedAll (cond b (refused_by o.reply) (allocation_number o.store (k o.reply))) o.store (k o.reply)) (sym e) (few_fed f one),
    )
few_fed {t = t} (few-make k r p e f) one =
    let x = (apply t (call_of (allocate k r p))).reply in
    (λ yes. refl, none_fed f (omega arith) (refused_by x))
