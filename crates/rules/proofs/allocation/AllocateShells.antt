-- A unit of the Allocate phase: the walked record gets a shell where it needs one, and the walk goes on; at the frontier the phase waits for the level.
use Prim.Native.Nat.{ℕ, ◌+◌, ◌≤◌, ◌<◌}
use mathlib.Core.Path.{◌≡◌, refl, sym, ◌∙◌}
use mathlib.Core.Logic.{◌≢◌}
use mathlib.Core.Bool.{true, false, cond, not, true≢false}
use native.Mathlib.Nat.{le_refl}
use native.Mathlib.Omega.{arith}
use lib.Dec.{leb, eqb}
use lib.ListN.{length}
use borrow.Author.Tests.{eq-eqb, ne_eqb, eqb-true, not-true, le-leb, lt-ltb, le-ltb}
use Rattle.rules.specs.Refusals.{passed, check, ◌>>◌}
use Rattle.rules.specs.Memory.{Memory, half, frontier, null, shape_at, replica_at, white, word, put, colour, replica, birth_number, refs, plains, size, append, next_reference, followed}
use Rattle.rules.specs.Control.{Store, with_memory}
use Rattle.rules.specs.Cycle.{stage}
use Rattle.rules.specs.Phases.{other_half}
use Rattle.rules.specs.Collector.{walked, below, past_record, needs_shell, shell_of, with_shell, allocate_shells}
use Rattle.rules.specs.Free.{Free}
use Rattle.rules.proofs.Ranges.{both}
use Rattle.rules.proofs.memory.Cases.{lt_or, bool_or}
use Rattle.rules.proofs.memory.Encoding.{other_below_2, other_differs}
use Rattle.rules.proofs.memory.Put.{PutKept, put-replica}
use Rattle.rules.proofs.memory.Append.{Appended}
use Rattle.rules.proofs.memory.Allocation.{shell_kept}
use Rattle.rules.proofs.memory.Total.{total_room, total_size}
use Rattle.rules.proofs.invariant.Stages.{st_allocate}
use Rattle.rules.proofs.invariant.Words.{In, copied}
use Rattle.rules.proofs.invariant.Sim.{Sim}
use Rattle.rules.proofs.invariant.Laws.{cur_two}
use Rattle.rules.proofs.invariant.Following.{followed_start, follow_home}
use Rattle.rules.proofs.invariant.Range.{half_length}
use Rattle.rules.proofs.invariant.Counted.{copied_none, copied_le}
use Rattle.rules.proofs.invariant.Walked.{walked_in}
use Rattle.rules.proofs.invariant.Room.{shelled}
use Rattle.rules.proofs.invariant.Spent.{Grows, grows_then, appended_grows}
use Rattle.rules.proofs.invariant.Spending.{Spends, spends_still, spends_walking}
use Rattle.rules.proofs.frames.Change.{put_frame}
use Rattle.rules.proofs.frames.Kept.{colour-kept}
use Rattle.rules.proofs.frames.Spent.{frame_grows}
use Rattle.rules.proofs.relation.Tracks.{tracked}
use Rattle.rules.proofs.relation.Stepped.{Stepped, stepped_same}
use Rattle.rules.proofs.phases.Moves.{allocate_moves}
use Rattle.rules.proofs.phases.Handshakes.{waiting-stepped}
use Rattle.rules.proofs.allocation.Shell.{shell_sim, shell_replica, shell_size}
use Rattle.rules.proofs.allocation.WalkOn.{walks_on}

-- ---- which records need a shell

needs_marked : (M : Memory) (v : ℕ) → needs_shell M v ≡ true → colour M v ≢ white
unfolding needs_shell
needs_marked M v e o =
    let k = not-true (eqb (colour M v) white) (both (not (eqb (colour M v) white)) (eqb (replica M v) null) e).0 in
    true≢false (sym (eq-eqb (colour M v) white o) ∙ k)

needs_alone : (M : Memory) (v : ℕ) → needs_shell M v ≡ true → replica M v ≡ null
unfolding needs_shell
needs_alone M v e = eqb-true (replica M v) null (both (not (eqb (colour M v) white)) (eqb (replica M v) null) e).1

needs_not : (M : Memory) (v : ℕ) → needs_shell M v ≡ false → colour M v ≢ white → replica M v ≢ null
unfolding needs_shell
needs_not M v e d o = true≢false (rw (ne_eqb (colour M v) white d, eq-eqb (replica M v) null o) at e)

module _ {K : ℕ → Type 0} {m : ℕ → ℕ} {s : Store} {f : Free} (h : Sim K m s f) (at_allocate : stage s.phase ≡ st_allocate) where
  abbrev M : Memory
  M = s.memory

  abbrev cur : ℕ
  cur = s.current

  abbrev other : ℕ
  other = other_half cur

  -- a record without replica finds room for its shell: the other half holds the sizes of those with one
  room_for : {v : ℕ} → In M cur v → replica M v ≡ null → frontier M other + size M v ≤ length (half M other)
  room_for {v} t alone =
      let a = total_room M (cur_two h) (copied M) (size M) t.start t.side (size M v) (omega (arith, copied_none M v alone)) (λ u o side. copied_le M u) in
      omega (
        arith,
        a,
        h.pairs.spent (omega arith),
        total_size h.filled (cur_two h),
        h.filled.fits cur (cur_two h),
        half_length h.range cur (cur_two h),
        half_length h.range other (other_below_2 cur),
      )

  module _ {v : ℕ} (t : In M cur v) (marked : colour M v ≢ white) (alone : replica M v ≡ null) where
    abbrev M₁ : Memory
    M₁ = append M other (shell_of M v)

    abbrev M₂ : Memory
    M₂ = put M₁ v replica_at (next_reference M other)

    shell_one : Appended M M₁ other (word M v shape_at) white v (birth_number M v) (refs M v + plains M v)
    shell_one = shell_kept h.filled t.start (other_below_2 cur) (room_for t alone)

    shell_more : PutKept M₁ M₂ v replica_at (next_reference M other)
    shell_more = put-replica shell_one.filled (shell_one.to t.start) (next_reference M other)

    shell_front : frontier M₂ cur ≡ frontier M cur
    shell_front = shell_more.front cur ∙ shell_one.front_other cur (cur_two h) (λ e. other_differs cur (cur_two h) (sym e))

    shelled_sim : Sim K (tracked (m v) m M M₂) (with_memory s M₂) f
    shelled_sim = shell_sim h at_allocate t marked alone shell_one shell_more

    shelled_replica : replica M₂ v ≢ null
    shelled_replica = shell_replica h at_allocate t marked alone shell_one shell_more

    shelled_size : size M₂ v ≡ size M v
    shelled_size = shell_size h at_allocate t marked alone shell_one shell_more

    shelled_grows : Grows s (with_memory s M₂)
    shelled_grows =
        let F = put_frame shell_more (omega arith) in
        grows_then (appended_grows (cur_two h) shell_one)
        (frame_grows {s = with_memory s M₁} {t = with_memory s M₂} (cur_two h) F refl refl
        (λ u o e. colour-kept F o.start (λ q. let z = q.1 in omega arith) ∙ e) (λ z. le_refl _))

  -- the walked record gets its shell
  shell_stepped : (under : s.walk.place < frontier M cur) → colour M (walked s) ≢ white → (alone : replica M (walked s) ≡ null)
      → Sim K (tracked (m (walked s)) m M (with_shell M other (walked s))) (past_record s (with_shell M other (walked s))) f
  unfolding past_record with_shell walked
  shell_stepped under marked alone =
      let t = walked_in h (h.walking.at_allocate at_allocate) under in
      walks_on (shelled_sim t marked alone) at_allocate (rw (shell_front t marked alone) under)
      (λ d. shelled_replica t marked alone) (s.walk.place + size M (walked s)) (rw (shelled_size t marked alone))

  shell_spends : (under : s.walk.place < frontier M cur) → colour M (walked s) ≢ white → replica M (walked s) ≡ null
      → Spends s (past_record s (with_shell M other (walked s)))
  unfolding past_record with_shell
  shell_spends under marked alone =
      spends_walking h.range (omega arith) (shelled_grows (walked_in h (h.walking.at_allocate at_allocate) under) marked alone) _ _

  -- below the frontier
  unit_stepped : s.walk.place < frontier M cur → Stepped K m s f (do
    followed M (walked s)
    cond (needs_shell M (walked s))
        (do
          check (leb (frontier M other + size M (walked s)) (length (half M other))) 12
          passed (past_record s (with_shell M other (walked s))))
        (passed (past_record s M)))
  unfolding past_record tracked with_shell
  unit_stepped l =
      let t = walked_in h (h.walking.at_allocate at_allocate) l in
      rw (followed_start (follow_home h t))
      (bool_or (needs_shell M (walked s))
      (λ e. record {
        after = past_record s (with_shell M other (walked s));
        passes = rw (e, le-leb _ _ (room_for t (needs_alone M (walked s) e)));
        place = tracked (m (walked s)) m M (with_shell M other (walked s));
        sim = shell_stepped l (needs_marked M (walked s) e) (needs_alone M (walked s) e);
        tracks = λ u. refl;
        spent = shell_spends l (needs_marked M (walked s) e) (needs_alone M (walked s) e);
        fronts = shelled (omega arith) refl (omega (arith, shell_front t (needs_marked M (walked s) e) (needs_alone M (walked s) e)));
      })
      (λ e. stepped_same (rw e) (walks_on h at_allocate l (needs_not M (walked s) e) (s.walk.place + size M (walked s)) refl) refl
      (spends_still h.range (omega arith) refl refl refl)))

  pub allocate_shells-stepped : Stepped K m s f (allocate_shells s)
  unfolding allocate_shells below
  allocate_shells-stepped = lt_or s.walk.place (frontier M cur)
      (λ l. rw (lt-ltb s.walk.place (frontier M cur) l) (unit_stepped l))
      (λ l. rw (le-ltb s.walk.place (frontier M cur) l) (waiting-stepped h (omega arith) (omega arith) (allocate_moves h at_allocate l)))
