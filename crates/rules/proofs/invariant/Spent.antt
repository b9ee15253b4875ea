-- The bound on marking: how many collector steps of the present collection have begun in HeapMark. They are spent on records that are
-- black, on the entry at the list's place as far as the walk field says, and on scanned sessions.
use Prim.Native.Nat.{ℕ, zero, suc, ◌+◌, ◌≤◌, ◌<◌, zero-le}
use mathlib.Core.Path.{◌≡◌, refl, ap, ◌∙◌}
use mathlib.Core.Logic.{◌≢◌}
use mathlib.Core.Bool.{Bool, true, false, cond}
use mathlib.Core.List.{List, [], ◌∷◌}
use native.Mathlib.Nat.{le_refl, not-suc-le-zero}
use native.Mathlib.Omega.{arith}
use lib.ListN.{get_or, set, length}
use Rattle.rules.specs.Memory.{Memory, null, frontier, next_reference, colour, size, colour_at, shape_at}
use Rattle.rules.specs.Control.{Store, with_memory}
use Rattle.rules.specs.Cycle.{stage}
use Rattle.rules.specs.Phases.{absent, session_at, with_session}
use Rattle.rules.specs.Free.{Free}
use Rattle.rules.specs.Claims.{scans_and_move}
use Rattle.rules.specs.declared.Session.{Session}
use Rattle.rules.proofs.memory.Cases.{eq_or, lt_or, chosen_below}
use Rattle.rules.proofs.memory.Records.{Start, refs-same, size-least}
use Rattle.rules.proofs.memory.Append.{Appended}
use Rattle.rules.proofs.memory.Total.{total, total_le, total_room, total_size, total_kept, total_append}
use Rattle.rules.proofs.invariant.Stages.{st_rest, st_heap_mark, st_stack_flip, st_reclaim, in_stage}
use Rattle.rules.proofs.invariant.Words.{work, done}
use Rattle.rules.proofs.invariant.Counted.{done_none, done_work, work_size, done_grows}
use Rattle.rules.proofs.invariant.Sim.{Sim}
use Rattle.rules.proofs.invariant.Laws.{cur_two}

-- ---- what is counted

-- the steps on the black records of half h
abbrev pub done_in : Memory → ℕ → ℕ
done_in M h = total M h (done M)

-- the sessions with a scanned mark, attached or not
unfoldable pub scans : List Session → ℕ
scans [] = 0
scans (x ∷ xs) = cond x.scanned 1 0 + scans xs

-- ---- the group: n steps have been spent in store s
pub record Spent (n : ℕ) (s : Store) : Type 0 where
  pub early : st_rest < stage s.phase → stage s.phase < st_heap_mark → n ≡ 0
  pub marking : stage s.phase ≡ st_heap_mark → n ≤ done_in s.memory s.current + (s.walk.field + scans s.sessions)
  pub late : st_heap_mark < stage s.phase → stage s.phase ≤ st_stack_flip → n ≤ done_in s.memory s.current + scans_and_move
  -- what was black has been copied to the half that is then the current one
  pub at_reclaim : stage s.phase ≡ st_reclaim → n ≤ frontier s.memory s.current + scans_and_move
  pub at_rest : stage s.phase ≡ st_rest → n ≤ frontier s.memory s.current + scans_and_move

-- no step counted
pub spent-zero : (s : Store) → Spent 0 s
spent-zero s = record { early = λ a b. refl; marking = λ a. zero-le; late = λ a b. zero-le; at_reclaim = λ a. zero-le; at_rest = λ a. zero-le }

-- every number that s allows t allows too
abbrev pub SpentKept : Store → Store → Type 0
SpentKept s t = (n : ℕ) → Spent n s → Spent n t

-- ---- a change within a phase, after which no less is counted
pub record Grows (s t : Store) : Type 0 where
  pub phase : t.phase ≡ s.phase
  pub front : frontier s.memory s.current ≤ frontier t.memory t.current
  pub blacks : st_heap_mark ≤ stage s.phase → stage s.phase ≤ st_stack_flip → done_in s.memory s.current ≤ done_in t.memory t.current
  pub others : stage s.phase ≡ st_heap_mark → s.walk.field + scans s.sessions ≤ t.walk.field + scans t.sessions

pub spent_grows : {s t : Store} → Grows s t → SpentKept s t
spent_grows {s} {t} g n k =
    let e : stage t.phase ≡ stage s.phase = ap stage g.phase in
    record {
      early = λ a b. k.early (omega arith) (omega arith);
      marking = λ a. omega (arith, k.marking (omega arith), g.blacks (omega arith) (omega arith), g.others (omega arith));
      late = λ a b. omega (arith, k.late (omega arith) (omega arith), g.blacks (omega arith) (omega arith));
      at_reclaim = λ a. omega (arith, k.at_reclaim (omega arith), g.front);
      at_rest = λ a. omega (arith, k.at_rest (omega arith), g.front);
    }

pub grows_same : {s : Store} → Grows s s
grows_same = record { phase = refl; front = le_refl _; blacks = λ a b. le_refl _; others = λ a. le_refl _ }

pub grows_then : {s t u : Store} → Grows s t → Grows t u → Grows s u
grows_then {s} {t} g k =
    let e : stage t.phase ≡ stage s.phase = ap stage g.phase in
    record {
      phase = k.phase ∙ g.phase;
      front = omega (arith, g.front, k.front);
      blacks = λ a b. omega (arith, g.blacks a b, k.blacks (omega arith) (omega arith));
      others = λ a. omega (arith, g.others a, k.others (omega arith));
    }

-- ---- sessions

-- no more than there are
pub scans_most : (xs : List Session) → scans xs ≤ length xs
unfolding scans
scans_most [] = zero-le
scans_most (x ∷ xs) = omega (arith, scans_most xs, chosen_below x.scanned 1 0 1 (omega arith) zero-le)

-- a session that keeps its mark, where it had one
one_kept : (a b : Bool) → (a ≡ true → b ≡ true) → ◌≤◌ (cond a 1 0) (cond b 1 0)
one_kept true b e = rw (e refl) (le_refl 1)
one_kept false b e = zero-le

scans_set : (xs : List Session) (n : ℕ) (x : Session) → ((get_or xs n absent).scanned ≡ true → x.scanned ≡ true) → scans xs ≤ scans (set xs n x)
unfolding scans
scans_set [] n x e = zero-le
scans_set (y ∷ xs) zero x e = omega (arith, one_kept y.scanned x.scanned e)
scans_set (y ∷ xs) (suc n) x e = omega (arith, scans_set xs n x e)

-- a session that gets one
pub scans_more : (xs : List Session) (n : ℕ) (x : Session) → n < length xs → (get_or xs n absent).scanned ≡ false → x.scanned ≡ true
    → scans (set xs n x) ≡ suc (scans xs)
unfolding scans
scans_more [] n x l e f = absurd (not-suc-le-zero l)
scans_more (y ∷ xs) zero x l e f = rw (e, f) (omega arith)
scans_more (y ∷ xs) (suc n) x l e f = omega (arith, scans_more xs n x (omega arith) e f)

-- one session changed: in HeapMark it keeps its mark
pub session_grows : (s : Store) (n : ℕ) (x : Session) → (stage s.phase ≡ st_heap_mark → (session_at s n).scanned ≡ true → x.scanned ≡ true)
    → Grows s (with_session s n x)
unfolding with_session session_at
session_grows s n x e = record {
  phase = refl;
  front = le_refl _;
  blacks = λ a b. le_refl _;
  others = λ a. omega (arith, scans_set s.sessions n x (e a));
}

-- ---- records

-- a record put at a frontier
module _ {M M' : Memory} {h w c v b n : ℕ} (a : Appended M M' h w c v b n) where
  done_old : {u : ℕ} → Start M u → done M u ≤ done M' u
  unfolding colour
  done_old {u} t =
      let z = size-least M u in
      done_grows M M' u (λ e. a.same t colour_at (omega arith) ∙ e) (refs-same M M' u (a.same t shape_at (omega arith)))

  done_appended : (g : ℕ) → g < 2 → done_in M g ≤ done_in M' g
  done_appended g two =
      let q = total_le M two (done M) (done M') (λ u t side. done_old t) in
      eq_or g h
      (λ e. let z : total M' g (done M') ≡ total M g (done M') + done M' (next_reference M h) = rw e (total_append a (done M')) in omega arith)
      (λ d. omega (arith, total_kept (a.same_starts g two d) (done M')))

pub appended_grows : {s : Store} {M' : Memory} {h w c v b n : ℕ} → s.current < 2 → Appended s.memory M' h w c v b n → Grows s (with_memory s M')
appended_grows {s} {h = h} two a = record {
  phase = refl;
  front = eq_or s.current h (λ e. rw e (omega (arith, a.front))) (λ d. omega (arith, a.front_other s.current two d));
  blacks = λ z y. done_appended a s.current two;
  others = λ z. le_refl _;
}

-- ---- the bound

module _ {K : ℕ → Type 0} {m : ℕ → ℕ} {s : Store} {f : Free} (h : Sim K m s f) where
  -- the steps that HeapMark spends on all records of the current half
  abbrev work_in : ℕ
  work_in = total s.memory s.current (work s.memory)

  done-within : done_in s.memory s.current ≤ work_in
  done-within = total_le s.memory (cur_two h) (done s.memory) (work s.memory) (λ v t side. done_work s.memory v)

  -- the entry at the list's place is grey, and the walk field is one of its fields, or their number
  walked-within : stage s.phase ≡ st_heap_mark → done_in s.memory s.current + s.walk.field ≤ work_in
  walked-within e =
      let M = s.memory in
      lt_or s.list.head s.list.tail
      (λ l.
      let v = get_or s.list.words s.list.head null in
      let t = h.grey-list.listed (omega arith) (omega arith) s.list.head l in
      let g = h.grey-list.unfinished (omega arith) (omega arith) s.list.head (le_refl _) l in
      total_room M (cur_two h) (done M) (work M) t.start t.side s.walk.field
      (omega (arith, done_none M v (λ b. omega arith), h.cleaned.scanned-within e l))
      (λ u o side. done_work M u))
      (λ l. omega (arith, done-within, h.walking.field-heap_mark e (omega (arith, h.range.begins))))

  -- until tospace becomes current
  pub spent_work : (n : ℕ) → Spent n s → stage s.phase ≢ st_rest → stage s.phase ≢ st_reclaim → n ≤ work_in + scans_and_move
  spent_work n k a b = lt_or (stage s.phase) st_heap_mark
      (λ c. omega (arith, k.early (omega arith) c))
      (λ c. eq_or (stage s.phase) st_heap_mark
      (λ e. omega (arith, k.marking e, walked-within e, scans_most s.sessions, h.roots.sessions))
      (λ d. omega (arith, k.late (omega arith) (omega (arith, in_stage h.range)), done-within)))

  -- always
  pub spent_bound : (n : ℕ) → Spent n s → n ≤ frontier s.memory s.current + scans_and_move
  spent_bound n k =
      let used : work_in ≤ frontier s.memory s.current =
      rw (← total_size h.filled (cur_two h)) (total_le s.memory (cur_two h) (work s.memory) (size s.memory) (λ v t side. work_size s.memory v)) in
      eq_or (stage s.phase) st_rest k.at_rest
      (λ a. eq_or (stage s.phase) st_reclaim k.at_reclaim (λ b. omega (arith, spent_work n k a b)))
