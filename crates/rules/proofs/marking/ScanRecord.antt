-- HeapMark, the oldest unfinished record: its next reference field is shaded, or, none left, it becomes black.
use Prim.Native.Nat.{ℕ, ◌+◌, ◌≤◌, ◌<◌}
use mathlib.Core.Path.{◌≡◌, ap, ◌∙◌}
use native.Mathlib.Omega.{arith}
use borrow.Author.Tests.{lt-ltb, le-ltb}
use Rattle.rules.specs.Memory.{refs}
use Rattle.rules.specs.Control.{Store, with_walk}
use Rattle.rules.specs.Cycle.{stage}
use Rattle.rules.specs.Barriers.{shade}
use Rattle.rules.specs.Collector.{scan_record}
use Rattle.rules.specs.Free.{Free}
use Rattle.rules.proofs.memory.Cases.{lt_or}
use Rattle.rules.proofs.invariant.Stages.{st_heap_mark}
use Rattle.rules.proofs.invariant.Words.{field}
use Rattle.rules.proofs.invariant.Sim.{Sim}
use Rattle.rules.proofs.invariant.Laws.{cur_two}
use Rattle.rules.proofs.invariant.Following.{followed_start, follow_home}
use Rattle.rules.proofs.invariant.Alive.{field_alive}
use Rattle.rules.proofs.frames.Change.{refs-kept}
use Rattle.rules.proofs.frames.Kept.{field-kept}
use Rattle.rules.proofs.invariant.Spending.{field_spends}
use Rattle.rules.proofs.relation.Stepped.{Stepped, stepped}
use Rattle.rules.proofs.marking.Shading.{Shaded, keeps_grows, shading_marks}
use Rattle.rules.proofs.marking.WalkOn.{past_field}
use Rattle.rules.proofs.marking.Blacken.{oldest, blackened, oldest_in, oldest_marked, blacken_kept, blacken_sim, blacken_spends}

module _ {K : ℕ → Type 0} {m : ℕ → ℕ} {s : Store} {f : Free} (h : Sim K m s f) (is : stage s.phase ≡ st_heap_mark) (more : s.list.head < s.list.tail) where
  -- a field that is left
  field-shaded : s.walk.field < refs s.memory (oldest s) → Shaded K m s f (field s.memory (oldest s) s.walk.field)
  field-shaded l =
      let t = oldest_in h is more in
      shading_marks h (omega arith) (omega arith) (h.values.ok (oldest s) s.walk.field t l)
      (h.field_halves.home (omega arith) (oldest s) s.walk.field t l)
      (field_alive h (omega arith) (omega arith) t (oldest_marked h is more) s.walk.field l)

  field-left : (l : s.walk.field < refs s.memory (oldest s)) → Shaded K m s f (field s.memory (oldest s) s.walk.field)
      → Stepped K m s f (scan_record s (oldest s))
  unfolding scan_record
  field-left l z =
      let k = s.walk.place in
      let i = s.walk.field in
      let t = oldest_in h is more in
      let w = z.keeps in
      stepped {s' = with_walk (shade s z.it) k (i + 1)}
      (rw (followed_start (follow_home h t), lt-ltb i (refs s.memory (oldest s)) l, z.passes))
      (past_field z.sim (ap stage w.phase ∙ is) k i (oldest s) (ap (λ x. x.place) w.walk) (ap (λ x. x.field) w.walk)
      (omega (arith, w.head, w.grows)) (rw w.head (w.entries s.list.head more)) (rw (refs-kept w.frame t.start) l)
      (rw (w.current, field-kept w.frame t.start i l (λ q. omega arith)) z.clean))
      (omega (arith, w.frame.front 0)) (omega (arith, w.frame.front 1))
      (field_spends h.range is (keeps_grows (cur_two h) w) k i (ap (λ x. x.field) w.walk))

  fields-done : refs s.memory (oldest s) ≤ s.walk.field → Stepped K m s f (scan_record s (oldest s))
  unfolding scan_record
  fields-done l = stepped {s' = blackened s}
      (rw (followed_start (follow_home h (oldest_in h is more)), le-ltb s.walk.field (refs s.memory (oldest s)) l))
      (blacken_sim h is more l) (omega (arith, (blacken_kept h is more).front 0)) (omega (arith, (blacken_kept h is more).front 1))
      (blacken_spends h is more)

  pub scan_record-stepped : Stepped K m s f (scan_record s (oldest s))
  scan_record-stepped = lt_or s.walk.field (refs s.memory (oldest s)) (λ l. field-left l (field-shaded l)) fields-done
