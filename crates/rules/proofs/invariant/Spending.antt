-- Steps, and the bound on marking: a step that begins in HeapMark counts, and shows in what the bound reads; one that leaves Rest begins
-- the count anew; no other counts.
use Prim.Native.Nat.{ℕ, suc, ◌+◌, ◌≤◌, ◌<◌}
use mathlib.Core.Path.{◌≡◌, refl}
use mathlib.Core.Logic.{◌≢◌}
use mathlib.Core.Bool.{true, false}
use native.Mathlib.Nat.{le_refl}
use native.Mathlib.Omega.{arith}
use lib.ListN.{length}
use borrow.Author.Tests.{ne_eqb}
use Rattle.rules.specs.Memory.{Memory}
use Rattle.rules.specs.Control.{Store, with_memory, with_walk}
use Rattle.rules.specs.Cycle.{stage, next_phase, at_rest, at_heap_mark}
use Rattle.rules.specs.Phases.{session_at, with_session, move_on}
use Rattle.rules.specs.Runs.{Step, spent_by}
use Rattle.rules.specs.Free.{Free}
use Rattle.rules.specs.Claims.{scans_and_move}
use Rattle.rules.specs.declared.Session.{Session}
use Rattle.rules.proofs.Ranges.{InRange}
use Rattle.rules.proofs.memory.Cases.{eq_or, lt_or}
use Rattle.rules.proofs.invariant.Stages.{st_rest, st_heap_mark, st_stack_flip, stage_is, stage-next, phase-is}
use Rattle.rules.proofs.invariant.Sim.{Sim}
use Rattle.rules.proofs.invariant.Spent.{done_in, scans, Spent, spent-zero, SpentKept, Grows, spent_grows, scans_most, scans_more}

-- every number that s allows t allows after a step from s
abbrev pub Spends : Store → Store → Type 0
Spends s t = (n : ℕ) → Spent n s → Spent (spent_by n s Step) t

-- ---- what a step counts, by the phase in which it begins

module _ {s : Store} (r : InRange s) (n : ℕ) where
  none_counted : stage s.phase ≡ st_rest → spent_by n s Step ≡ 0
  none_counted e = rw (phase-is at_rest r.phases (omega arith) e)

  one_counted : stage s.phase ≡ st_heap_mark → spent_by n s Step ≡ suc n
  one_counted e = rw (phase-is at_heap_mark r.phases (omega arith) e)

  still-counted : stage s.phase ≢ st_rest → stage s.phase ≢ st_heap_mark → spent_by n s Step ≡ n
  still-counted a b = rw (ne_eqb s.phase at_rest (λ e. a (stage_is e)), ne_eqb s.phase at_heap_mark (λ e. b (stage_is e)))

module _ {s t : Store} (r : InRange s) where
  -- before HeapMark nothing has been spent
  pub spends_early : stage s.phase < st_heap_mark → Spends s t
  spends_early l n k = eq_or (stage s.phase) st_rest
      (λ e. rw (none_counted r n e) (spent-zero t))
      (λ d. let z : n ≡ 0 = k.early (omega arith) l in rw (still-counted r n d (omega arith), z) (spent-zero t))

  -- after it nothing is added
  pub spends_late : st_heap_mark < stage s.phase → SpentKept s t → Spends s t
  spends_late l c n k = rw (still-counted r n (omega arith) (omega arith)) (c n k)

  -- so it is where records and current half stay
  pub spends_still : st_heap_mark < stage s.phase → t.phase ≡ s.phase → t.current ≡ s.current → t.memory ≡ s.memory → Spends s t
  spends_still l p c e = spends_late l (spent_grows (record {
    phase = p;
    front = rw (c, e) (le_refl _);
    blacks = λ a b. rw (c, e) (le_refl _);
    others = λ a. absurd (omega arith);
  }))

  -- a step that stays in HeapMark
  pub spends_marking : stage s.phase ≡ st_heap_mark → t.phase ≡ s.phase
      → done_in s.memory s.current + (s.walk.field + scans s.sessions) < done_in t.memory t.current + (t.walk.field + scans t.sessions)
      → Spends s t
  spends_marking e p l n k =
      let q : stage t.phase ≡ st_heap_mark = rw p e in
      rw (one_counted r n e) (record {
        early = λ a b. absurd (omega arith);
        marking = λ a. omega (arith, k.marking e);
        late = λ a b. absurd (omega arith);
        at_reclaim = λ a. absurd (omega arith);
        at_rest = λ a. absurd (omega arith);
      })

-- a walk after HeapMark that goes on, over memory M'
pub spends_walking : {s : Store} {M' : Memory} → InRange s → st_heap_mark < stage s.phase → Grows s (with_memory s M') → (k i : ℕ)
    → Spends s (with_walk (with_memory s M') k i)
spends_walking r l g k i = spends_late r l (spent_grows (record { phase = refl; front = g.front; blacks = g.blacks; others = λ a. absurd (omega arith) }))

-- ---- steps of HeapMark, after a change u in which no less is counted

module _ {s u : Store} (r : InRange s) (e : stage s.phase ≡ st_heap_mark) (g : Grows s u) where
  -- a field walked
  pub field_spends : (k i : ℕ) → u.walk.field ≡ i → Spends s (with_walk u k (i + 1))
  field_spends k i b = spends_marking r e g.phase (omega (arith, g.blacks (omega arith) (omega arith), g.others e))

  -- a session scanned
  pub scan_spends : (n : ℕ) (x : Session) → n < length u.sessions → (session_at u n).scanned ≡ false → x.scanned ≡ true → Spends s (with_session u n x)
  unfolding with_session session_at
  scan_spends n x l b c = spends_marking r e g.phase
      (omega (arith, g.blacks (omega arith) (omega arith), g.others e, scans_more u.sessions n x l b c))

-- ---- steps that wait, and steps that move on

pub spends_waiting : {s : Store} → InRange s → stage s.phase ≢ st_heap_mark → Spends s s
spends_waiting {s} r d = lt_or (stage s.phase) st_heap_mark (spends_early r) (λ l. spends_late r (omega arith) (λ n k. k))

-- to a phase after HeapMark in which the same half is current
moved : {s : Store} → InRange s → {n : ℕ} → st_heap_mark ≤ stage s.phase → stage s.phase < st_stack_flip → n ≤ done_in s.memory s.current + scans_and_move → Spent n (move_on s)
unfolding move_on
moved {s} r lo hi c =
    let e : stage (next_phase s.phase) ≡ suc (stage s.phase) = stage-next s.phase r.phases (omega arith) in
    record {
      early = λ a b. absurd (omega arith);
      marking = λ a. absurd (omega arith);
      late = λ a b. c;
      at_reclaim = λ a. absurd (omega arith);
      at_rest = λ a. absurd (omega arith);
    }

pub spends_moving : {s : Store} → InRange s → stage s.phase ≢ st_heap_mark → stage s.phase < st_stack_flip → Spends s (move_on s)
spends_moving {s} r d hi = lt_or (stage s.phase) st_heap_mark (spends_early r)
    (λ l. spends_late r (omega arith) (λ n k. moved r l hi (k.late (omega arith) (omega arith))))

-- HeapMark's last: the list is done, and at most sixteen sessions are scanned
pub spends_marked : {K : ℕ → Type 0} {m : ℕ → ℕ} {s : Store} {f : Free} → Sim K m s f → stage s.phase ≡ st_heap_mark → s.list.head ≡ s.list.tail
    → Spends s (move_on s)
spends_marked {s = s} h e d n k = rw (one_counted h.range n e) (moved h.range (omega arith) (omega arith)
    (omega (arith, k.marking e, h.walking.field-heap_mark e d, scans_most s.sessions, h.roots.sessions)))
