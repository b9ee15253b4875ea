-- The claims about runs: answers, no damage, ranges, halves without gaps, two runs, what is freed, what crates above go by, replicas that
-- point back, birth numbers.
use Prim.Native.Nat.{ℕ}
use mathlib.Core.Path.{◌≡◌, sym, ap, ◌∙◌}
use mathlib.Core.List.{List, Memᴰ}
use Rattle.rules.specs.Control.{Store}
use Rattle.rules.specs.Runs.{Call, after}
use Rattle.rules.specs.Phases.{session_at}
use Rattle.rules.specs.Free.{free_session, free_register}
use Rattle.rules.specs.Tracking.{new_beside, beside, records_of}
use Rattle.rules.specs.Claims.{Made, Answers, NoDamage, StaysInRange, Filled, TwoRuns, Freed, StaysFreed, NextAnswer, SafePointAnswer, LiveFits, NullRegisters, RecordsFollowed, BirthNumbers, BirthsCounted, BirthsDiffer}
use Rattle.rules.proofs.Ranges.{in_range-tested}
use Rattle.rules.proofs.memory.Listing.{listing_start}
use Rattle.rules.proofs.invariant.Laws.{place-null}
use Rattle.rules.proofs.invariant.Following.{followed_start, follow_record}
use Rattle.rules.proofs.claims.TwoRuns as pair
use Rattle.rules.proofs.runs.Start.{start_sim}
use Rattle.rules.proofs.runs.Call.{one_call, safe_point-reply}
use Rattle.rules.proofs.runs.Runs.{Holds, run_holds, beside-store, run_answers}
use Rattle.rules.proofs.runs.Filled.{filled-half}
use Rattle.rules.proofs.runs.Freed.{freed_between}
use Rattle.rules.proofs.runs.StaysFreed.{freed_after}
use Rattle.rules.proofs.runs.LiveFits.{reached_fits}

-- every place may stay
abbrev pub Any : ℕ → Type 0
Any q = Unit {0}

-- the invariant in every run
module _ (s : Store) (made : Made s) where
  pub start_holds : Holds Any (new_beside s)
  start_holds = start_sim Any (λ q l. tt) s made

  pub holds : (cs : List Call) → Holds Any (beside (new_beside s) cs)
  holds cs = run_holds (new_beside s) start_holds cs

pub answers : Answers
unfolding Answers
answers s made cs = run_answers (new_beside s) (start_holds s made) cs

pub no_damage : NoDamage
unfolding NoDamage
no_damage s made cs c =
    let k = one_call (beside (new_beside s) cs) (holds s made cs) c in
    rw (← beside-store (new_beside s) cs) (k.not_4, k.not_12)

pub stays_in_range : StaysInRange
unfolding StaysInRange
stays_in_range s made cs = rw (← beside-store (new_beside s) cs) (in_range-tested (holds s made cs).range)

pub filled : Filled
unfolding Filled
filled s made cs h two = rw (← beside-store (new_beside s) cs) (filled-half (holds s made cs).filled two)

pub two_runs : TwoRuns
two_runs = pair.two_runs answers

pub freed : Freed
unfolding Freed
freed s made cs ds begins ends =
    freed_between (beside (new_beside s) cs) (holds s made cs) (rw (beside-store (new_beside s) cs) begins) ds (rw (beside-store (new_beside s) cs) ends)

pub stays_freed : StaysFreed
unfolding StaysFreed
stays_freed s made cs ds begins ends =
    freed_after (beside (new_beside s) cs) (holds s made cs) (rw (beside-store (new_beside s) cs) begins) ds (rw (beside-store (new_beside s) cs) ends)

-- ---- for crates above

pub next-answer : NextAnswer
unfolding NextAnswer
next-answer s made cs c session =
    let k = one_call (beside (new_beside s) cs) (holds s made cs) c in
    rw (← beside-store (new_beside s) cs) (k.reply session)

pub safe_point-answer : SafePointAnswer
unfolding SafePointAnswer
safe_point-answer s made cs n =
    rw (← beside-store (new_beside s) cs) (safe_point-reply (beside (new_beside s) cs) (holds s made cs) n)

pub live_fits : LiveFits
unfolding LiveFits
live_fits s made cs qs reached once = rw (← beside-store (new_beside s) cs) (reached_fits (holds s made cs) qs reached once)

pub null-registers : NullRegisters
unfolding NullRegisters free_session free_register session_at
null-registers s made cs n k e =
    let h = holds s made cs in
    rw (← beside-store (new_beside s) cs) (place-null h (h.roots.reg_ok n k) (sym (h.roots.reg_is n k) ∙ e))

-- ---- replicas point back

pub records-followed : RecordsFollowed
unfolding RecordsFollowed
records-followed s made cs h two at v =
    let k = holds s made cs in
    rw (← beside-store (new_beside s) cs) (λ (i : Memᴰ v (records_of (beside (new_beside s) cs).store.memory h)).
    let t = listing_start k.filled two i in followed_start (follow_record k (rw (beside-store (new_beside s) cs) at) t.0 t.1))

-- ---- birth numbers

pub birth-numbers : BirthNumbers
unfolding BirthNumbers
birth-numbers s made cs h two v =
    let k = holds s made cs in
    rw (← beside-store (new_beside s) cs) (λ (i : Memᴰ v (records_of (beside (new_beside s) cs).store.memory h)).
    k.identity.born v (listing_start k.filled two i).0)

pub births-counted : BirthsCounted
unfolding BirthsCounted
births-counted s made cs = rw (← beside-store (new_beside s) cs) (holds s made cs).births

pub births_differ : BirthsDiffer
unfolding BirthsDiffer
births_differ s made cs h two u v i j e =
    let k = holds s made cs in
    let M = (beside (new_beside s) cs).store.memory in
    let b : M ≡ (after s cs).memory = ap (λ t. t.memory) (beside-store (new_beside s) cs) in
    let t = listing_start k.filled two (rw (← b) at i) in
    let w = listing_start k.filled two (rw (← b) at j) in
    k.identity.apart u v t.0 w.0 (t.1 ∙ sym w.1) (sym (k.identity.born u t.0) ∙ rw (← b) at e ∙ k.identity.born v w.0)
