-- Claim 10 of the code: what it holds after each call is what the rules leave, so shares that stay there stay here.
use Prim.Native.Nat.{ℕ, zero, suc, ◌+◌, ◌≤◌}
use mathlib.Core.Path.{◌≡◌, refl, sym, ap, subst, ◌∙◌}
use mathlib.Core.Logic.{◌≢◌}
use mathlib.Core.List.{List}
use native.Mathlib.Omega.{arith}
use lib.ListN.{take}
use Rattle.rules.specs.Refusals.{Reply, answer}
use Rattle.rules.specs.Control.{Store}
use Rattle.rules.specs.Cycle.{at_reclaim}
use Rattle.rules.specs.Phases.{session_at}
use Rattle.rules.specs.Runs.{Call, Allocate, Step, apply, after}
use Rattle.rules.specs.Claims.{EndsReclaim, used_words, all_shares, SharesKept, ShareAfterReclaim}
use Rattle.rules.specs.Answers.{Refused}
use Rattle.rules.proofs.runs.Shares.{share-after-reclaim}
use Rattle.store.specs.CodeRuns.{Lent, viewed, CodeRun, ended, next}
use Rattle.store.specs.CodeClaims.{SharesKeptIn, CodeShareAfterReclaim}
use Rattle.store.proofs.runs.Runs.{called_applies, code_made, run_applies}

-- every share of the store s is what it is in x
abbrev SharesAs : Lent → Store → Type 0
SharesAs x s = (n : ℕ) → (session_at s n).share ≡ (session_at (viewed x) n).share

-- after each first i calls
shares_kept : {a e : Lent} {cs : List Call} {rs : List Reply} (x : Lent) (calls : CodeRun a cs rs e) → SharesAs x (viewed a) → SharesKeptIn x calls
    → (i : ℕ) → SharesAs x (after (viewed a) (take i cs))
shares_kept x ended same k zero = same
shares_kept x ended same k (suc i) = same
shares_kept x (next called rest) same k zero = same
shares_kept x (next {cs = cs} called rest) same k (suc i) =
    subst (λ (s : Store). SharesAs x (after s (take i cs))) (ap (λ o. o.store) (called_applies called)) (shares_kept x rest k.0 k.2 i)

phases-kept : {a e : Lent} {cs : List Call} {rs : List Reply} (x : Lent) (calls : CodeRun a cs rs e) → (viewed a).phase ≢ at_reclaim → SharesKeptIn x calls
    → (i : ℕ) → (after (viewed a) (take i cs)).phase ≢ at_reclaim
phases-kept x ended d k zero = d
phases-kept x ended d k (suc i) = d
phases-kept x (next called rest) d k zero = d
phases-kept x (next {cs = cs} called rest) d k (suc i) =
    subst (λ (s : Store). (after s (take i cs)).phase ≢ at_reclaim) (ap (λ o. o.store) (called_applies called)) (phases-kept x rest k.1 k.2 i)

-- what the rules say of the store t just after a step that ended Reclaim
abbrev Roomy : Store → Type 0
Roomy t =
    used_words t + all_shares t.sessions ≤ t.lengths.half0
    → (ds : List Call) → SharesKept t ds → ((i : ℕ) → (after t (take i ds)).phase ≢ at_reclaim)
    → (n k r p : ℕ) → (apply (after t ds) (Allocate n k r p)).reply ≢ answer (Refused 14)

pub code_share-after-reclaim : CodeShareAfterReclaim
unfolding CodeShareAfterReclaim ShareAfterReclaim
code_share-after-reclaim a b t e f cs ds rs qs x y n k r p made calls step begins ends fits calls' kept called =
    let from : viewed b ≡ after (viewed a) cs = (run_applies calls).1 in
    let to : (apply (after (viewed a) cs) Step).store ≡ viewed t =
    ap (λ s. (apply s Step).store) (sym from) ∙ sym (ap (λ o. o.store) (called_applies step)) in
    let ended : EndsReclaim (after (viewed a) cs) = (sym (ap (λ s. s.phase) from) ∙ begins, ap (λ s. s.phase) to ∙ ends) in
    let room : Roomy (viewed t) = subst Roomy to (share-after-reclaim (viewed a) (code_made made) cs ended) in
    let q : y ≡ (apply (after (viewed t) ds) (Allocate n k r p)).reply =
    ap (λ o. o.reply) (called_applies called) ∙ ap (λ s. (apply s (Allocate n k r p)).reply) (run_applies calls').1 in
    rw q (room fits ds (shares_kept t calls' (λ j. refl) kept) (phases-kept t calls' (λ z. omega (arith, sym ends ∙ z)) kept) n k r p)
