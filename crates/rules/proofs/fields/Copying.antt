-- 7 Copy: the next field of the record at the walk place copied to its replica; the whole unit.
use Prim.Native.Nat.{ℕ, ◌+◌, ◌-◌, ◌≤◌, ◌<◌}
use mathlib.Core.Path.{◌≡◌, refl, ◌∙◌}
use mathlib.Core.Logic.{◌≢◌}
use mathlib.Core.Bool.{false, not, ◌&&◌}
use native.Mathlib.Omega.{arith}
use lib.Dec.{ltb, eqb}
use lib.ListN.{get_or}
use lib.Seq.{set-get_or}
use borrow.Author.Tests.{ne_eqb, eq-eqb, lt-ltb, le-ltb}
use Rattle.rules.specs.Refusals.{passed}
use Rattle.rules.specs.Memory.{Memory, null, frontier, put, replica, refs, plains, ref_field, plain_field}
use Rattle.rules.specs.Control.{Store, with_memory, with_walk}
use Rattle.rules.specs.Cycle.{stage}
use Rattle.rules.specs.Phases.{other_half, move_on}
use Rattle.rules.specs.Collector.{walked, below, past_record, copy_ref, copy_plain, copy_field, copy}
use Rattle.rules.specs.Free.{Free, no_record, record_at, with_record}
use Rattle.rules.proofs.memory.Cases.{eq_or, lt_or}
use Rattle.rules.proofs.memory.Records.{ref_inside, plain_inside}
use Rattle.rules.proofs.invariant.Stages.{st_allocate, st_copy, st_stack_flip}
use Rattle.rules.proofs.invariant.Words.{In, Ok, field, plain_of, fwd, rec_of}
use Rattle.rules.proofs.invariant.Sim.{Sim}
use Rattle.rules.proofs.invariant.Laws.{cur_two, marked_black, replica_other, to_other}
use Rattle.rules.proofs.invariant.Following.{followed_start, forward-passed, follow_home, follow-replica, follow-word}
use Rattle.rules.proofs.invariant.Pairs.{replica-shape}
use Rattle.rules.proofs.invariant.Spending.{spends_still, spends_walking, spends_moving}
use Rattle.rules.proofs.frames.Change.{refs-kept, plains-kept}
use Rattle.rules.proofs.frames.Kept.{replicas_kept, fwd_kept}
use Rattle.rules.proofs.frames.Spent.{fields_grow}
use Rattle.rules.proofs.relation.Stepped.{Stepped, stepped, stepped_same}
use Rattle.rules.proofs.phases.Moves.{copy_moves}
use Rattle.rules.proofs.fields.Written.{Written, written_copy}
use Rattle.rules.proofs.fields.Reference.{with_ref, Fits, ref_write_sim}
use Rattle.rules.proofs.fields.Plain.{with_plain, plain_write_sim}
use Rattle.rules.proofs.fields.Stores.{forwarded_away}
use Rattle.rules.proofs.fields.CopyWalk.{FieldCopied, copied_in, next_field, past_record_lem}

-- ---- the collector-free store with what it has written to it
same_ref : (f : Free) (q i : ℕ) → with_record f q (with_ref (record_at f q) i (get_or (record_at f q).refs i null)) ≡ f
unfolding with_record record_at
same_ref f q i = rw (set-get_or (rec_of f.records q).refs i null, set-get_or f.records (q - 1) no_record)

same_plain : (f : Free) (q i : ℕ) {a : ℕ} → get_or (record_at f q).plains i 0 ≡ a → with_record f q (with_plain (record_at f q) i a) ≡ f
unfolding with_record record_at
same_plain f q i e = rw (← e, set-get_or (rec_of f.records q).plains i 0, set-get_or f.records (q - 1) no_record)

-- a field of v copied to its replica, at word j of both
module _ {K : ℕ → Type 0} {m : ℕ → ℕ} {s : Store} {f : Free} (h : Sim K m s f) (lo : st_allocate < stage s.phase) (hi : stage s.phase ≤ st_stack_flip)
    {v : ℕ} (q : In s.memory s.current v) (n : replica s.memory v ≢ null) where
  abbrev M : Memory
  M = s.memory

  abbrev away : ℕ
  away = other_half s.current

  -- a reference field, forwarded
  module _ (i : ℕ) (l : i < refs s.memory v) where
    ok : Ok M (field M v i)
    ok = h.values.ok v i q l

    fits : Fits K m s (field M v i) (get_or (record_at f (m v)).refs i null)
    unfolding record_at
    fits = record {
      is = h.values.ref v i q l;
      held = λ z. held z;
      ok = ok;
      side = λ y. h.field_halves.home y v i q l;
      clean = λ a b. h.cleaned.fields a b v i q (marked_black h (omega arith) hi q (h.colours.paired_marked hi v q n)) l;
    }
      where
        held : get_or (rec_of f.records (m v)).refs i null ≢ null → K (get_or (rec_of f.records (m v)).refs i null)
        held z = h.kept.fields (m v) i (h.kept.marked (omega arith) hi v q (h.colours.paired_marked hi v q n)) z

    abbrev copied_ref : Memory
    copied_ref = put M (replica M v) (ref_field i) (fwd M away (field M v i))

    written_ref : Written s copied_ref v (replica M v) (ref_field i) (field M v i) (fwd M away (field M v i))
    written_ref = written_copy h q (ref_field i) (omega arith) (ref_inside M v i l) n (fwd M away (field M v i))

    copy_ref_sim : Sim K m (with_memory s copied_ref) f
    copy_ref_sim = rw (same_ref f (m v) i) at (ref_write_sim h written_ref l fits (forwarded_away h lo hi fits v (replica M v)) (λ e. absurd (omega arith)))

    copied_ref_agrees : FieldCopied copied_ref s.current v i
    copied_ref_agrees =
        let w = written_ref in
        let F = w.frame in
        let r = replicas_kept F (λ a z. let e = z.0 in omega arith) in
        record {
          refs_agree = λ z b. rw (r v q.start, w.away hi (replica_other h q n), w.new, fwd_kept F r away ok);
          plains_agree = λ z k e b. absurd (let y = refs-kept F q.start in omega arith);
        }

  -- a plain field
  module _ (i : ℕ) (l : i < plains s.memory v) where
    abbrev copied_plain : Memory
    copied_plain = put M (replica M v) (plain_field (refs M v) i) (plain_of M v i)

    written_plain : Written s copied_plain v (replica M v) (plain_field (refs M v) i) (plain_of M v i) (plain_of M v i)
    written_plain = written_copy h q (plain_field (refs M v) i) (omega arith) (plain_inside M v i l) n (plain_of M v i)

    value : get_or (record_at f (m v)).plains i 0 ≡ plain_of M v i
    unfolding record_at
    value = h.values.plain v i q l

    copy_plain_sim : Sim K m (with_memory s copied_plain) f
    copy_plain_sim = rw (same_plain f (m v) i value) at (plain_write_sim h written_plain l)

    copied_plain_agrees : (j : ℕ) → j ≡ refs M v + i → FieldCopied copied_plain s.current v j
    copied_plain_agrees j x =
        let w = written_plain in
        let F = w.frame in
        let e = refs-kept F q.start in
        let r = replicas_kept F (λ a z. let y = z.0 in omega arith) v q.start in
        record {
          refs_agree = λ z b. absurd (omega arith);
          plains_agree = λ z k y b. let d : k ≡ i = omega arith in
              rw (d, r, e, refs-kept F (h.pairs.pair v q n).start, (replica-shape h v q n).0, w.away hi (replica_other h q n), w.new);
        }

-- ---- the unit
module _ {K : ℕ → Type 0} {m : ℕ → ℕ} {s : Store} {f : Free} (h : Sim K m s f) (e : stage s.phase ≡ st_copy) where
  -- at the frontier
  ends : frontier s.memory s.current ≤ s.walk.place → Stepped K m s f (copy s)
  unfolding copy below move_on
  ends l = stepped_same (rw (le-ltb s.walk.place (frontier s.memory s.current) l)) (copy_moves h e l) refl
      (spends_moving h.range (omega arith) (omega arith))

  module _ (l : s.walk.place < frontier s.memory s.current) where
    abbrev v : ℕ
    v = walked s

    at : In s.memory s.current (walked s)
    at = copied_in h e l

    -- without replica, or past its last field
    passes_over : (replica s.memory v ≢ null → refs s.memory v + plains s.memory v ≤ s.walk.field)
        → (not (eqb (replica s.memory v) null) && ltb s.walk.field (refs s.memory v + plains s.memory v)) ≡ false
        → Stepped K m s f (copy s)
    unfolding copy below past_record
    passes_over c b = stepped_same
        (rw (lt-ltb s.walk.place (frontier s.memory s.current) l, followed_start (follow_home h at), b))
        (past_record_lem h e l c) refl (spends_still h.range (omega arith) refl refl refl)

    -- a field copied: the step passes with memory M'
    copies : {M' : Memory} {t j u y : ℕ} → Written s M' v t j u y → Sim K m (with_memory s M') f
        → s.walk.field < refs M' v + plains M' v → FieldCopied M' s.current v s.walk.field
        → copy s ≡ passed (with_walk (with_memory s M') s.walk.place (s.walk.field + 1)) → Stepped K m s f (copy s)
    unfolding walked
    copies w g b c p = stepped p
        (next_field g e (rw (w.frame.front s.current) l) b c)
        (omega (arith, w.frame.front 0)) (omega (arith, w.frame.front 1))
        (spends_walking h.range (omega arith) (fields_grow (cur_two h) w.frame (λ a i q. rw q.0 w.past)) _ _)

    module _ (n : replica s.memory (walked s) ≢ null) (b : s.walk.field < refs s.memory (walked s) + plains s.memory (walked s)) where
      shape : (refs s.memory (replica s.memory v) ≡ refs s.memory v) × (plains s.memory (replica s.memory v) ≡ plains s.memory v)
      shape = replica-shape h v at n

      -- the tests before the copy
      to-field : copy s ≡ copy_field s v s.walk.field
      unfolding copy below
      to-field = rw (
        lt-ltb s.walk.place (frontier s.memory s.current) l,
        followed_start (follow_home h at),
        ne_eqb (replica s.memory v) null n,
        lt-ltb s.walk.field (refs s.memory v + plains s.memory v) b,
      )

      ref_passes : s.walk.field < refs s.memory v → copy_field s v s.walk.field
          ≡ passed (with_walk (with_memory s (put s.memory (replica s.memory v) (ref_field s.walk.field)
          (fwd s.memory (other_half s.current) (field s.memory v s.walk.field)))) s.walk.place (s.walk.field + 1))
      unfolding copy_field copy_ref
      ref_passes r = rw (
        followed_start (follow-replica (follow_home h at) (h.pairs.pair v at n)),
        lt-ltb s.walk.field (refs s.memory v) r,
        shape.0,
        lt-ltb s.walk.field (refs s.memory v) r,
        to_other h (λ z. omega arith),
        forward-passed (other_half s.current) (h.values.ok v s.walk.field at r) (λ o d. follow-word h (λ y. h.field_halves.home y v s.walk.field at r) o),
      )

      copies_ref : s.walk.field < refs s.memory v → Stepped K m s f (copy s)
      copies_ref r =
          let i = s.walk.field in
          let w = written_ref h (omega arith) (omega arith) at n i r in
          let F = w.frame in
          copies w (copy_ref_sim h (omega arith) (omega arith) at n i r)
          (rw (refs-kept F at.start, plains-kept F at.start) b)
          (copied_ref_agrees h (omega arith) (omega arith) at n i r)
          (to-field ∙ ref_passes r)

      -- a plain field, of number i among them
      plain_passes : (i : ℕ) → s.walk.field ≡ refs s.memory v + i → i < plains s.memory v → copy_field s v s.walk.field
          ≡ passed (with_walk (with_memory s (put s.memory (replica s.memory v) (plain_field (refs s.memory v) i) (plain_of s.memory v i)))
          s.walk.place (s.walk.field + 1))
      unfolding copy_field copy_plain
      plain_passes i y r =
          let z : s.walk.field - refs s.memory v ≡ i = omega arith in
          rw (
            followed_start (follow-replica (follow_home h at) (h.pairs.pair v at n)),
            le-ltb s.walk.field (refs s.memory v) (omega arith),
            z,
            shape.1,
            shape.0,
            lt-ltb i (plains s.memory v) r,
          )

      copies_plain : refs s.memory v ≤ s.walk.field → Stepped K m s f (copy s)
      copies_plain r =
          let i : ℕ = s.walk.field - refs s.memory v in
          let y : s.walk.field ≡ refs s.memory v + i = omega arith in
          let g : i < plains s.memory v = omega arith in
          let w = written_plain h (omega arith) (omega arith) at n i g in
          let F = w.frame in
          copies w (copy_plain_sim h (omega arith) (omega arith) at n i g)
          (rw (refs-kept F at.start, plains-kept F at.start) b)
          (copied_plain_agrees h (omega arith) (omega arith) at n i g s.walk.field y)
          (to-field ∙ plain_passes i y g)

    works : Stepped K m s f (copy s)
    works = eq_or (replica s.memory v) null
        (λ z. passes_over (λ n. absurd (n z)) (rw (eq-eqb (replica s.memory v) null z)))
        (λ n. lt_or s.walk.field (refs s.memory v + plains s.memory v)
        (λ b. lt_or s.walk.field (refs s.memory v) (copies_ref n b) (copies_plain n b))
        (λ b. passes_over (λ z. b) (rw (ne_eqb (replica s.memory v) null n, le-ltb s.walk.field (refs s.memory v + plains s.memory v) b))))

  pub copy-stepped : Stepped K m s f (copy s)
  copy-stepped = lt_or s.walk.place (frontier s.memory s.current) works ends
