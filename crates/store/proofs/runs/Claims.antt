-- The claims of the rules about runs, of the code.
use Prim.Native.Nat.{ℕ, zero, suc, ◌+◌, ◌≤◌, ◌<◌}
use mathlib.Core.Path.{◌≡◌, refl, sym, ap, ap₂, subst, ◌∙◌}
use mathlib.Core.Logic.{◌≢◌, ◌⊎◌}
use mathlib.Core.Bool.{cond}
use mathlib.Core.List.{List, [], ◌∷◌, ◌++◌, Memᴰ}
use lib.ListN.{take, drop}
use Rattle.rules.specs.Refusals.{passed, Reply}
use Rattle.rules.specs.Memory.{frontier, birth_number, followed}
use Rattle.rules.specs.Control.{Store}
use Rattle.rules.specs.Runs.{Call, Step, apply, run, after, is_session, is_allocation, session_run, fed_by, feeds, steps, spent_by, spent}
use Rattle.rules.specs.Tracking.{Beside, beside, new_beside, records_of}
use Rattle.rules.specs.Cycle.{at_rest, at_reclaim}
use Rattle.rules.specs.Claims.{Answers, NoDamage, FilledFrom, Filled, TwoRuns, Freed, FreedBetween, left_in, places_in, StaysFreed, scans_and_move, MarkingEnds, MarkingIsOver, RecordsFollowed, BirthNumbers}
use Rattle.rules.proofs.runs.Runs.{beside-store, beside-more}
use Rattle.rules.proofs.runs.Claims.{answers, no_damage, filled, two_runs, freed, stays_freed, records-followed, birth-numbers}
use Rattle.rules.proofs.runs.MarkingEnds.{marking_ends, marking_is-over}
use Rattle.store.specs.CodeRuns.{Lent, viewed, CodeRun, ended, next}
use Rattle.store.specs.CodeClaims.{session_replies, fed_replies, CodeAnswers, CodeNoDamage, CodeFilled, CodeTwoRuns, beside_code, CodeFreed, CodeStaysFreed, code_spent, CodeMarkingEnds, CodeMarkingIsOver, CodeRecordsFollowed, CodeBirthNumbers}
use Rattle.store.proofs.runs.Runs.{called_applies, code_made, run_applies}

-- of the replies of a run of the rules, the session answers and what is fed
pub session_replies_lem : (s : Store) (cs : List Call) → session_replies cs (run s cs) ≡ session_run s cs
session_replies_lem s [] = refl
session_replies_lem s (c ∷ cs) =
    ap (λ x. cond (is_session c) ((apply s c).reply ∷ x) x) (session_replies_lem (apply s c).store cs)

pub fed_replies_lem : (s : Store) (cs : List Call) → fed_replies cs (run s cs) ≡ feeds s cs
fed_replies_lem s [] = refl
fed_replies_lem s (c ∷ cs) =
    ap (λ x. cond (is_allocation c) (fed_by (apply s c).reply ∷ x) x) (fed_replies_lem (apply s c).store cs)

module _ {a e : Lent} {cs : List Call} {rs : List Reply} (calls : CodeRun a cs rs e) where
  -- the same of the replies of the code
  answers_of : session_replies cs rs ≡ session_run (viewed a) cs
  answers_of = ap (session_replies cs) (run_applies calls).0 ∙ session_replies_lem (viewed a) cs

  fed_of : fed_replies cs rs ≡ feeds (viewed a) cs
  fed_of = ap (fed_replies cs) (run_applies calls).0 ∙ fed_replies_lem (viewed a) cs

  -- what the code holds is the store of the run beside
  beside_code_lem : beside (new_beside (viewed a)) cs ≡ beside_code a cs e
  beside_code_lem =
      let b = beside (new_beside (viewed a)) cs in
      ap (λ s. record { store = s; free = b.free; place = b.place }) (beside-store (new_beside (viewed a)) cs ∙ sym (run_applies calls).1)

pub code_answers : CodeAnswers
unfolding CodeAnswers Answers
code_answers a e cs rs made calls = rw (answers_of calls, fed_of calls) (answers (viewed a) (code_made made) cs)

pub code_no_damage : CodeNoDamage
unfolding CodeNoDamage NoDamage
code_no_damage a e f cs rs c r made calls called =
    let q : r ≡ (apply (after (viewed a) cs) c).reply =
    ap (λ o. o.reply) (called_applies called) ∙ ap (λ s. (apply s c).reply) (run_applies calls).1 in
    rw q (no_damage (viewed a) (code_made made) cs c)

pub code_filled : CodeFilled
unfolding CodeFilled Filled
code_filled a e cs rs made calls h two =
    subst (λ (s : Store). FilledFrom s.memory h 0) (sym (run_applies calls).1) (filled (viewed a) (code_made made) cs h two)

pub code_two_runs : CodeTwoRuns
unfolding CodeTwoRuns TwoRuns
code_two_runs a d b e cs ds rs qs makes makes' calls calls' same =
    rw (answers_of calls, fed_of calls, answers_of calls', fed_of calls')
    (two_runs (viewed a) (viewed b) (code_made makes) (code_made makes') cs ds same)

-- calls after calls
run_more : {a b e : Lent} {cs ds : List Call} {rs qs : List Reply}
    → CodeRun a cs rs b → CodeRun b ds qs e → CodeRun a (cs ++ ds) (rs ++ qs) e
run_more ended calls' = calls'
run_more (next called calls) calls' = next called (run_more calls calls')

pub freed_same : {b b' e e' : Beside} → b ≡ b' → e ≡ e' → FreedBetween b e (left_in e) → FreedBetween b' e' (left_in e')
freed_same x y k = subst (λ (z : Beside × Beside). FreedBetween z.0 z.1 (left_in z.1)) (ap₂ (λ u v. (u, v)) x y) k

-- a collection that the calls ds after cs end, in the words of the rules
module _ {a b e : Lent} {cs ds : List Call} {rs qs : List Reply} (calls : CodeRun a cs rs b) (calls' : CodeRun b (Step ∷ ds) qs e) where
  begins_so : b.control.cursor.phase ≡ at_rest → (after (viewed a) cs).phase ≡ at_rest
  begins_so z = sym (ap (λ s. s.phase) (run_applies calls).1) ∙ z

  ends_so : e.control.cursor.phase ≡ at_rest → (after (after (viewed a) cs) (Step ∷ ds)).phase ≡ at_rest
  ends_so z = sym (ap (λ s. s.phase) ((run_applies calls').1 ∙ ap (λ s. after s (Step ∷ ds)) (run_applies calls).1)) ∙ z

pub code_freed : CodeFreed
unfolding CodeFreed Freed
code_freed a b e cs ds rs qs made calls calls' begins ends =
    freed_same (beside_code_lem calls) (sym (beside-more (new_beside (viewed a)) cs (Step ∷ ds)) ∙ beside_code_lem (run_more calls calls'))
    (freed (viewed a) (code_made made) cs ds (begins_so calls calls' begins) (ends_so calls calls' ends))

pub code_stays_freed : CodeStaysFreed
unfolding CodeStaysFreed StaysFreed
code_stays_freed a b e f cs ds es rs qs ps made calls calls' calls'' begins ends h two q i =
    let z : beside (beside (beside (new_beside (viewed a)) cs) (Step ∷ ds)) es ≡ beside_code a ((cs ++ (Step ∷ ds)) ++ es) f =
    ap (λ x. beside x es) (sym (beside-more (new_beside (viewed a)) cs (Step ∷ ds)))
    ∙ sym (beside-more (new_beside (viewed a)) (cs ++ (Step ∷ ds)) es) ∙ beside_code_lem (run_more (run_more calls calls') calls'') in
    stays_freed (viewed a) (code_made made) cs ds (begins_so calls calls' begins) (ends_so calls calls' ends) es h two q
    (subst (λ (x : Beside). Memᴰ q (places_in x h)) (sym z) i)

-- ---- marking

-- the count of the code is that of the run of the rules
spent_code : {a e : Lent} {cs : List Call} {rs : List Reply} (calls : CodeRun a cs rs e) (n : ℕ) → code_spent n calls ≡ spent n (viewed a) cs
spent_code ended n = refl
spent_code (next {a} {b} {c = c} {cs = cs} called rest) n =
    spent_code rest (spent_by n (viewed a) c) ∙ ap (λ s. spent (spent_by n (viewed a) c) s cs) (ap (λ o. o.store) (called_applies called))

pub code_marking_ends : CodeMarkingEnds
unfolding CodeMarkingEnds MarkingEnds
code_marking_ends a e cs rs made calls =
    rw (spent_code calls 0) (subst (λ (s : Store). spent 0 (viewed a) cs ≤ frontier s.memory s.current + scans_and_move)
    (sym (run_applies calls).1) (marking_ends (viewed a) (code_made made) cs))

-- a run cut after its first n calls
run-cut : {a e : Lent} {cs : List Call} {rs : List Reply} → CodeRun a cs rs e → (n : ℕ)
    → (d : Lent) × CodeRun a (take n cs) (take n rs) d × CodeRun d (drop n cs) (drop n rs) e
run-cut {a} calls zero = (a, ended, calls)
run-cut {a} ended (suc n) = (a, ended, ended)
run-cut (next called calls) (suc n) = let p = run-cut calls n in (p.0, next called p.1, p.2)

pub code_marking_is-over : CodeMarkingIsOver
unfolding CodeMarkingIsOver MarkingIsOver
code_marking_is-over a b e cs ds rs qs made calls calls' more =
    let k = (run_applies calls).1 in
    let o = marking_is-over (viewed a) (code_made made) cs ds (subst (λ (s : Store). s.lengths.half0 + scans_and_move < steps ds) k more) in
    let p = run-cut calls' o.0 in
    let q : viewed p.0 ≡ after (after (viewed a) cs) (take o.0 ds) = (run_applies p.1).1 ∙ ap (λ s. after s (take o.0 ds)) k in
    (o.0, o.1, p.0, p.1, p.2, λ z. o.2 (sym (ap (λ s. s.phase) q) ∙ z))

-- ---- replicas

pub code_records-followed : CodeRecordsFollowed
unfolding CodeRecordsFollowed RecordsFollowed
code_records-followed a e cs rs made calls =
    subst (λ (s : Store). (h : ℕ) → h < 2 → (h ≡ s.current) ⊎ (s.phase ≢ at_reclaim) → (v : ℕ) → Memᴰ v (records_of s.memory h) → followed s.memory v ≡ passed tt)
    (sym (run_applies calls).1) (records-followed (viewed a) (code_made made) cs)

pub code_birth-numbers : CodeBirthNumbers
unfolding CodeBirthNumbers BirthNumbers
code_birth-numbers a e cs rs made calls =
    subst (λ (s : Store). (h : ℕ) → h < 2 → (v : ℕ) → Memᴰ v (records_of s.memory h) → birth_number s.memory v ≡ (beside (new_beside (viewed a)) cs).place v)
    (sym (run_applies calls).1) (birth-numbers (viewed a) (code_made made) cs)
