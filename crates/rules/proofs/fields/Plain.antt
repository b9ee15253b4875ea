-- A plain field written: of v, and where its replica is written, of it too.
use Prim.Native.Nat.{ℕ, ◌≤◌, ◌<◌}
use mathlib.Core.Path.{◌≡◌, refl, sym, ◌∙◌}
use mathlib.Core.Logic.{◌≢◌, inl}
use native.Mathlib.Omega.{arith}
use lib.ListN.{get_or, length, set, length-set}
use lib.Seq.{get_or-set_same, get_or-set_other}
use Rattle.rules.specs.Memory.{Memory, null, replica, refs, plains, ref_field, plain_field}
use Rattle.rules.specs.Control.{Store, with_memory}
use Rattle.rules.specs.Cycle.{stage}
use Rattle.rules.specs.Phases.{other_half}
use Rattle.rules.specs.Free.{Free, Record, record_at, with_record}
use Rattle.rules.proofs.memory.Cases.{eq_or}
use Rattle.rules.proofs.invariant.Stages.{st_copy, st_stack_flip}
use Rattle.rules.proofs.invariant.Words.{In, plain_of, rec_of}
use Rattle.rules.proofs.invariant.Sim.{Sim}
use Rattle.rules.proofs.invariant.Pairs.{pair_shape, replica-shape}
use Rattle.rules.proofs.frames.Change.{refs-kept}
use Rattle.rules.proofs.frames.Kept.{field-kept, plain_kept}
use Rattle.rules.proofs.fields.Write.{Two, FieldWrite}
use Rattle.rules.proofs.fields.WriteSim.{field-write_sim}
use Rattle.rules.proofs.fields.Written.{Written}

-- the collector-free record with a in plain field i
abbrev pub with_plain : Record → ℕ → ℕ → Record
with_plain r i a = record { refs = r.refs; plains = set r.plains i a }

module _ {K : ℕ → Type 0} {m : ℕ → ℕ} {s : Store} {f : Free} {M' : Memory} {v t i a : ℕ}
    (h : Sim K m s f) (w : Written s M' v t (plain_field (refs s.memory v) i) a a) (l : i < plains s.memory v) where
  abbrev j : ℕ
  j = plain_field (refs s.memory v) i

  number : (k : ℕ) → plain_field (refs s.memory v) k ≡ j → k ≡ i
  number k q = omega arith

  others : (b k : ℕ) → k ≢ j → ¬ Two v t j b k
  others b k d q = d q.0

  -- the field after the write
  new : plain_of M' v i ≡ a
  new = rw (refs-kept w.frame w.here.start) w.new

  new_copy : st_copy ≤ stage s.phase → stage s.phase ≤ st_stack_flip → replica s.memory v ≢ null → plain_of M' (replica s.memory v) i ≡ a
  new_copy lo hi n =
      rw (refs-kept w.frame (h.pairs.pair v w.here n).start, (replica-shape h v w.here n).0) (w.copy lo hi n)

  written_plain : FieldWrite K m s f M' v t j (with_plain (rec_of f.records (m v)) i a)
  written_plain =
      let M = s.memory in
      let old = (rec_of f.records (m v)).plains in
      let n : length old ≡ plains M v = h.identity.nplains v w.here.start in
      let same : get_or (set old i a) i 0 ≡ a = get_or-set_same old i a 0 (rw n l) in
      record {
        frame = w.frame;
        here = w.here;
        past = w.past;
        apart = w.apart;
        paired = w.paired;
        refs-number = h.identity.nrefs v w.here.start;
        plains-number = length-set old i a ∙ n;
        ref_is = λ k b. rw (field-kept w.frame w.here.start k b (others v (ref_field k) (λ r. omega arith))) (h.values.ref v k w.here b);
        plain_is = λ k b. eq_or k i
            (λ q. rw (q, same, new))
            (λ q. rw (get_or-set_other old i k a 0 q, plain_kept w.frame w.here.start k b (others v (plain_field (refs M v) k) (λ r. q (number k r))))
            (h.values.plain v k w.here b));
        held = λ k b. inl refl;
        ok = λ k q b. absurd (omega arith);
        side = λ x k q b. absurd (omega arith);
        clean = λ lo hi k q b. absurd (omega arith);
        over = λ e k q b. absurd (omega arith);
        away = λ hi o k q b. absurd (let z = copy-refs hi o in omega arith);
        refs_agree = λ lo hi c k q b. absurd (omega arith);
        plains_agree = λ lo hi c k q b. rw (number k q, new_copy lo hi c, new);
      }
    where
      copy-refs : stage s.phase ≤ st_stack_flip → In s.memory (other_half s.current) t → refs s.memory t ≡ refs s.memory v
      copy-refs hi o = sym (rw (w.paired hi o) at (pair_shape h.identity o.start (h.pairs.home hi t o).1).0)

  pub plain_write_sim : Sim K m (with_memory s M') (with_record f (m v) (with_plain (record_at f (m v)) i a))
  unfolding record_at
  plain_write_sim = field-write_sim h written_plain
