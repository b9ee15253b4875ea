-- 7 Copy: the walk goes on, to the next field of a record or to the next record.
use Prim.Native.Nat.{ℕ, ◌+◌, ◌≤◌, ◌<◌}
use mathlib.Core.Path.{◌≡◌, refl, sym, ◌∙◌}
use mathlib.Core.Logic.{◌≢◌}
use native.Mathlib.Omega.{arith}
use Rattle.rules.specs.Memory.{Memory, null, word_of, reference, frontier, replica, refs, plains, size}
use Rattle.rules.specs.Control.{Store, with_walk, walk_limit, most_fields}
use Rattle.rules.specs.Cycle.{stage}
use Rattle.rules.specs.Phases.{other_half}
use Rattle.rules.specs.Collector.{walked}
use Rattle.rules.specs.Free.{Free}
use Rattle.rules.proofs.memory.Cases.{lt_or, either}
use Rattle.rules.proofs.memory.Encoding.{word-reference, reference-same}
use Rattle.rules.proofs.memory.Records.{start_from_2, start_refs, start_plains}
use Rattle.rules.proofs.memory.Walk.{Walk, walk_split}
use Rattle.rules.proofs.invariant.Stages.{st_copy}
use Rattle.rules.proofs.invariant.Words.{In, field, plain_of, fwd}
use Rattle.rules.proofs.invariant.Groups.{Copied, over, earlier, here, Agreement}
use Rattle.rules.proofs.invariant.Sim.{Sim}
use Rattle.rules.proofs.invariant.Laws.{cur_two}
use Rattle.rules.proofs.invariant.Walked.{walked_in, walked_next, walked_limit, walk_sim}

-- field number i of v, references first, has been copied to its replica
pub record FieldCopied (M : Memory) (cur v i : ℕ) : Type 0 where
  pub refs_agree : replica M v ≢ null → i < refs M v → field M (replica M v) i ≡ fwd M (other_half cur) (field M v i)
  pub plains_agree : replica M v ≢ null → (k : ℕ) → refs M v + k ≡ i → k < plains M v → plain_of M (replica M v) k ≡ plain_of M v k

module _ {K : ℕ → Type 0} {m : ℕ → ℕ} {s : Store} {f : Free} (h : Sim K m s f) (e : stage s.phase ≡ st_copy) where
  -- the walk at k and i
  copy_walk : (k i : ℕ) → k ≤ walk_limit s.phase s.lengths.half0 → i ≤ most_fields → Walk s.memory s.current k
      → (k < frontier s.memory s.current → i ≤ refs s.memory (reference s.current k) + plains s.memory (reference s.current k))
      → (frontier s.memory s.current ≤ k → i ≡ 0)
      → Agreement s.memory s.current (stage s.phase) k i → Sim K m (with_walk s k i) f
  copy_walk k i a b w c d g = walk_sim h (record {
    places = a;
    fields = b;
    globals-below = λ z. absurd (omega arith);
    scanning = λ z. absurd (omega arith);
    scanned-within = λ z. absurd (omega arith);
    covered = λ z. absurd (omega arith);
    shelled_below = λ z. absurd (omega arith);
    agreement = g;
    flipping = λ z. absurd (omega arith);
    walking = record {
      at_allocate = λ z. absurd (omega arith);
      at_copy = λ z. w;
      at_reclaim = λ z. absurd (omega arith);
      field-heap_mark = λ z. absurd (omega arith);
      field_copy = λ z. c;
      field-copy-end = λ z. d;
      cleared = λ z. absurd (omega arith);
    };
  })

  -- ---- below the frontier
  module _ (l : s.walk.place < frontier s.memory s.current) where
    pub copied_in : In s.memory s.current (walked s)
    copied_in = walked_in h (h.walking.at_copy e) l

    walked-word : word_of (walked s) ≡ s.walk.place
    unfolding walked
    walked-word = word-reference s.current s.walk.place (cur_two h)

    walked_only : {v : ℕ} → In s.memory s.current v → word_of v ≡ s.walk.place → v ≡ walked s
    walked_only {v} q n = reference-same v (walked s) (start_from_2 q.start) (start_from_2 copied_in.start) (q.side ∙ sym copied_in.side) (n ∙ sym walked-word)

    -- its next field has been copied
    next_agreement : FieldCopied s.memory s.current (walked s) s.walk.field
        → Agreement s.memory s.current (stage s.phase) s.walk.place (s.walk.field + 1)
    next_agreement c = record {
      refs_agree = λ lo hi v i q n b d. old_or v i q d
          (λ z. h.agreement.refs_agree lo hi v i q n b z)
          (λ z y. rw (z, y) (c.refs_agree (rw z at n) (rw (z, y) at b)));
      plains_agree = λ lo hi v i q n b d. old_or v (refs s.memory v + i) q d
          (λ z. h.agreement.plains_agree lo hi v i q n b z)
          (λ z y. rw z (c.plains_agree (rw z at n) i (rw z at y) (rw z at b)));
    }
      where
        old_or : (v i : ℕ) → In s.memory s.current v → Copied (stage s.phase) s.walk.place (s.walk.field + 1) v i → {C : Type 0}
            → (Copied (stage s.phase) s.walk.place s.walk.field v i → C) → (v ≡ walked s → i ≡ s.walk.field → C) → C
        old_or v i q (over z) old new = old (over z)
        old_or v i q (earlier z) old new = old (earlier z)
        old_or v i q (here z b) old new = lt_or i s.walk.field (λ g. old (here z g)) (λ g. new (walked_only q z) (omega arith))

    pub next_field : s.walk.field < refs s.memory (walked s) + plains s.memory (walked s) → FieldCopied s.memory s.current (walked s) s.walk.field
        → Sim K m (with_walk s s.walk.place (s.walk.field + 1)) f
    unfolding walked
    next_field b c = copy_walk s.walk.place (s.walk.field + 1) h.range.places
        (omega (arith, start_refs h.filled copied_in.start, start_plains h.filled copied_in.start))
        (h.walking.at_copy e) (λ z. omega arith) (λ z. absurd (omega arith)) (next_agreement c)

    -- past the record: it has no replica, or all its fields have been copied
    past_agreement : (replica s.memory (walked s) ≢ null → refs s.memory (walked s) + plains s.memory (walked s) ≤ s.walk.field)
        → Agreement s.memory s.current (stage s.phase) (s.walk.place + size s.memory (walked s)) 0
    unfolding walked
    past_agreement c = record {
      refs_agree = λ lo hi v i q n b d. h.agreement.refs_agree lo hi v i q n b
          (old v i q n (omega arith) d);
      plains_agree = λ lo hi v i q n b d. h.agreement.plains_agree lo hi v i q n b
          (old v (refs s.memory v + i) q n (omega arith) d);
    }
      where
        old : (v i : ℕ) → In s.memory s.current v → replica s.memory v ≢ null → i < refs s.memory v + plains s.memory v
            → Copied (stage s.phase) (s.walk.place + size s.memory (walked s)) 0 v i → Copied (stage s.phase) s.walk.place s.walk.field v i
        old v i q n b (over z) = over z
        old v i q n b (earlier z) = either (walk_split (cur_two h) (h.walking.at_copy e) q.start q.side z)
            (λ y. earlier y)
            (λ y. let g = c (rw y at n) in let r : i < refs s.memory (walked s) + plains s.memory (walked s) = rw y at b in
            here (rw y walked-word) (omega arith))
        old v i q n b (here z y) = absurd (omega arith)

    pub past_record_lem : (replica s.memory (walked s) ≢ null → refs s.memory (walked s) + plains s.memory (walked s) ≤ s.walk.field)
        → Sim K m (with_walk s (s.walk.place + size s.memory (walked s)) 0) f
    unfolding walked
    past_record_lem c = copy_walk (s.walk.place + size s.memory (reference s.current s.walk.place)) 0
        (walked_limit h (h.walking.at_copy e) l (omega arith) (omega arith)) (omega arith) (walked_next h (h.walking.at_copy e) l)
        (λ z. omega arith) (λ z. refl) (past_agreement c)
