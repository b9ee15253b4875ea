-- A directory call is its first store call and then the rest; where the first is refused, nothing has changed.
use Prim.Native.Nat.{ℕ}
use mathlib.Core.Path.{◌≡◌, refl, ap, ◌∙◌}
use Rattle.rules.specs.Refusals.{refused, answer}
use Rattle.rules.specs.Control.{Store}
use Rattle.rules.specs.Runs.{apply}
use Rattle.rules.specs.Claims.{RefusalsKeep}
use Rattle.rules.specs.Answers.{Refused, Done}
use Rattle.rules.proofs.claims.Refusals.{refusals_keep}
use Rattle.directory_rules.specs.Table.{Request, Open, Add, Remove, Make, Join, Leave, Members}
use Rattle.directory_rules.specs.Acts.{Ask, call_of, Act, ◌>>=◌, must, or_stop, perform}
use Rattle.directory_rules.specs.Directory.{first_ask, inner, program, directory_call}
use Rattle.directory_rules.specs.Claims.{first_call, FirstKeeps}

pub first_call_lem : (q : Request) → call_of (first_ask q) ≡ first_call q
first_call_lem (Open share) = refl
first_call_lem (Add n) = refl
first_call_lem (Remove n) = refl
first_call_lem (Make g) = refl
first_call_lem (Join n g) = refl
first_call_lem (Leave n g) = refl
first_call_lem (Members g out) = refl

-- a refused call leaves the store
pub ask_keeps : (s : Store) (c : Ask) (n : ℕ) → (apply s (call_of c)).reply ≡ answer (Refused n) → (apply s (call_of c)).store ≡ s
unfolding RefusalsKeep
ask_keeps s c = refusals_keep s (call_of c)

pub must-done : {A : Type 0} (s : Store) (c : Ask) (k : Unit {0} → Act A) → (apply s (call_of c)).reply ≡ answer Done
    → perform s (must c >>= k) ≡ perform (apply s (call_of c)).store (k tt)
must-done s c k e = ap (λ r. perform (apply s (call_of c)).store (or_stop r >>= k)) e

must-refused : {A : Type 0} (s : Store) (c : Ask) (k : Unit {0} → Act A) (n : ℕ) → (apply s (call_of c)).reply ≡ answer (Refused n)
    → perform s (must c >>= k) ≡ record { store = s; result = refused n }
must-refused s c k n e =
    ap (λ r. perform (apply s (call_of c)).store (or_stop r >>= k)) e ∙ ap (λ t. record { store = t; result = refused n }) (ask_keeps s c n e)

pub first_keeps : FirstKeeps
unfolding FirstKeeps directory_call program
first_keeps s q n e =
    let z = must-refused s (first_ask q) (λ x. inner s.lengths.half0 q) n (rw (first_call_lem q) e) in
    rw z (refl, refl)
