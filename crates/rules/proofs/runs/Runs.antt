-- Runs: the invariant and the bound on marking along a list of calls, and the session answers of the collector-free store.
use Prim.Native.Nat.{ℕ}
use mathlib.Core.Path.{◌≡◌, refl, ap, ◌∙◌}
use mathlib.Core.Bool.{true, cond}
use mathlib.Core.List.{List, [], ◌∷◌, ◌++◌}
use Rattle.rules.specs.Refusals.{Reply}
use Rattle.rules.specs.Control.{Store}
use Rattle.rules.specs.Runs.{Call, apply, after, is_session, is_allocation, session_calls, session_run, Fed, fed_by, feeds, spent_by, spent}
use Rattle.rules.specs.Free.{Free, free_apply, free_run, next_fed}
use Rattle.rules.specs.Tracking.{Beside, beside_call, beside}
use Rattle.rules.proofs.invariant.Sim.{Sim}
use Rattle.rules.proofs.invariant.Spent.{Spent}
use Rattle.rules.proofs.relation.Kinds.{Kind, allocation, unfed, silent, kind}
use Rattle.rules.proofs.runs.Call.{one_call}

-- the invariant of a run's present state
abbrev pub Holds : (K : ℕ → Type 0) → Beside → Type 0
Holds K b = Sim K b.place b.store b.free

-- every call keeps it
pub run_holds : {K : ℕ → Type 0} (b : Beside) → Holds K b → (cs : List Call) → Holds K (beside b cs)
run_holds b h [] = h
run_holds b h (c ∷ cs) = run_holds (beside_call b c) (one_call b h c).sim cs

-- and the bound on marking
pub run-spent : {K : ℕ → Type 0} (b : Beside) → Holds K b → (cs : List Call) (n : ℕ) → Spent n b.store → Spent (spent n b.store cs) (beside b cs).store
run-spent b h [] n k = k
run-spent b h (c ∷ cs) n k = let z = one_call b h c in run-spent (beside_call b c) z.sim cs (spent_by n b.store c) (z.spent n k)

-- the store beside is the store of the run
pub beside-store : (b : Beside) (cs : List Call) → (beside b cs).store ≡ after b.store cs
beside-store b [] = refl
beside-store b (c ∷ cs) = beside-store (beside_call b c) cs

-- calls after calls
pub after_more : (s : Store) (cs ds : List Call) → after s (cs ++ ds) ≡ after (after s cs) ds
after_more s [] ds = refl
after_more s (c ∷ cs) ds = after_more (apply s c).store cs ds

pub beside-more : (b : Beside) (cs ds : List Call) → beside b (cs ++ ds) ≡ beside (beside b cs) ds
beside-more b [] ds = refl
beside-more b (c ∷ cs) ds = beside-more (beside_call b c) cs ds

-- ---- session answers

-- one call more: r is its reply, f' what it leaves of the collector-free store, rs, cs and fs the run after it
answers_call : (f f' : Free) (c : Call) (r : Reply) (rs : List Reply) (cs : List Call) (fs : List Fed) → Kind c
    → (is_session c ≡ true → r ≡ (free_apply f c (fed_by r)).reply) → f' ≡ cond (is_session c) (free_apply f c (fed_by r)).store f
    → rs ≡ free_run f' cs fs
    → cond (is_session c) (r ∷ rs) rs ≡ free_run f (cond (is_session c) (c ∷ cs) cs) (cond (is_allocation c) (fed_by r ∷ fs) fs)
answers_call f f' c r rs cs fs (allocation a b) same e ih =
    let e' : f' ≡ (free_apply f c (fed_by r)).store = e ∙ rw a in
    rw (a, b, ← e', ← ih) (ap (λ x. x ∷ rs) (same a))
answers_call f f' c r rs cs fs (unfed a b any) same e ih =
    let e' : f' ≡ (free_apply f c (next_fed fs)).store = e ∙ rw (a, any f (fed_by r) (next_fed fs)) in
    rw (a, b, ← e', ← ih) (ap (λ x. x ∷ rs) (same a ∙ rw (any f (fed_by r) (next_fed fs))))
answers_call f f' c r rs cs fs (silent a b) same e ih =
    let e' : f' ≡ f = e ∙ rw a in
    rw (a, b) (rw e' at ih)

pub run_answers : {K : ℕ → Type 0} (b : Beside) → Holds K b → (cs : List Call)
    → session_run b.store cs ≡ free_run b.free (session_calls cs) (feeds b.store cs)
run_answers b h [] = refl
run_answers b h (c ∷ cs) =
    let k = one_call b h c in
    answers_call b.free (beside_call b c).free c (apply b.store c).reply (session_run (apply b.store c).store cs) (session_calls cs)
    (feeds (apply b.store c).store cs) (kind c) k.reply refl (run_answers (beside_call b c) k.sim cs)
