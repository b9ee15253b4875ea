-- A reference field written: of v, field i becomes u, and that of its replica the forwarded word. In HeapMark what field i held is clean.
use Prim.Native.Nat.{ℕ, ◌≤◌, ◌<◌}
use mathlib.Core.Path.{◌≡◌, ◌∙◌}
use mathlib.Core.Logic.{◌≢◌, inl, inr}
use native.Mathlib.Omega.{arith}
use lib.ListN.{get_or, length, set, length-set}
use lib.Seq.{get_or-set_same, get_or-set_other}
use Rattle.rules.specs.Memory.{Memory, null, replica, refs, ref_field, plain_field}
use Rattle.rules.specs.Control.{Store, with_memory}
use Rattle.rules.specs.Cycle.{stage}
use Rattle.rules.specs.Phases.{other_half}
use Rattle.rules.specs.Free.{Free, Record, record_at, with_record}
use Rattle.rules.proofs.memory.Cases.{eq_or}
use Rattle.rules.proofs.invariant.Stages.{st_pre_mark1, st_heap_mark, st_copy, st_stack_flip}
use Rattle.rules.proofs.invariant.Words.{In, Ok, Names, Clean, field, fwd, rec_of}
use Rattle.rules.proofs.invariant.Groups.{NoFlip}
use Rattle.rules.proofs.invariant.Sim.{Sim}
use Rattle.rules.proofs.frames.Kept.{field-kept, plain_kept}
use Rattle.rules.proofs.fields.Write.{Two, FieldWrite}
use Rattle.rules.proofs.fields.WriteSim.{field-write_sim}
use Rattle.rules.proofs.fields.Written.{Written}

-- the collector-free record with place p in reference field i
abbrev pub with_ref : Record → ℕ → ℕ → Record
with_ref r i p = record { refs = set r.refs i p; plains = r.plains }

-- u may be written: it stands for the place p
pub record Fits (K : ℕ → Type 0) (m : ℕ → ℕ) (s : Store) (u p : ℕ) : Type 0 where
  pub is : p ≡ m u
  pub held : p ≢ null → K p
  pub ok : Ok s.memory u
  pub side : NoFlip (stage s.phase) → Names s.current u
  pub clean : st_pre_mark1 < stage s.phase → stage s.phase ≤ st_stack_flip → Clean s.memory s.current u

-- y may be written to the replica t of v beside it
pub record FitsAway (s : Store) (v t u y : ℕ) : Type 0 where
  pub ok : stage s.phase ≤ st_stack_flip → In s.memory (other_half s.current) t → Ok s.memory y
  pub side : stage s.phase ≤ st_stack_flip → In s.memory (other_half s.current) t → Names (other_half s.current) y
  pub agrees : st_copy ≤ stage s.phase → stage s.phase ≤ st_stack_flip → replica s.memory v ≢ null → y ≡ fwd s.memory (other_half s.current) u

module _ {K : ℕ → Type 0} {m : ℕ → ℕ} {s : Store} {f : Free} {M' : Memory} {v t i u y p : ℕ}
    (h : Sim K m s f) (w : Written s M' v t (ref_field i) u y) (l : i < refs s.memory v) (x : Fits K m s u p) (z : FitsAway s v t u y)
    (over : stage s.phase ≡ st_heap_mark → Clean s.memory s.current (field s.memory v i)) where
  number : (k : ℕ) → ref_field k ≡ ref_field i → k ≡ i
  number k q = omega arith

  others : (a k : ℕ) → k ≢ ref_field i → ¬ Two v t (ref_field i) a k
  others a k d q = d q.0

  written_ref : FieldWrite K m s f M' v t (ref_field i) (with_ref (rec_of f.records (m v)) i p)
  written_ref =
      let M = s.memory in
      let old = (rec_of f.records (m v)).refs in
      let n : length old ≡ refs M v = h.identity.nrefs v w.here.start in
      let same : get_or (set old i p) i null ≡ p = get_or-set_same old i p null (rw n l) in
      record {
        frame = w.frame;
        here = w.here;
        past = w.past;
        apart = w.apart;
        paired = w.paired;
        refs-number = length-set old i p ∙ n;
        plains-number = h.identity.nplains v w.here.start;
        ref_is = λ k b. eq_or k i
            (λ q. rw (q, same, w.new) x.is)
            (λ q. rw (get_or-set_other old i k p null q, field-kept w.frame w.here.start k b (others v (ref_field k) (λ r. q (number k r))))
            (h.values.ref v k w.here b));
        plain_is = λ k b. rw (plain_kept w.frame w.here.start k b (others v (plain_field (refs M v) k) (λ r. omega arith))) (h.values.plain v k w.here b);
        held = λ k b. eq_or k i
            (λ q. inr (rw (q, same) (x.held (rw (q, same) at b))))
            (λ q. inl (get_or-set_other old i k p null q));
        ok = λ k q b. rw (number k q, w.new) x.ok;
        side = λ a k q r. rw (number k q, w.new) (x.side a);
        clean = λ lo hi k q b. rw (number k q, w.new) (x.clean lo hi);
        over = λ e k q b. rw (number k q) (over e);
        away = λ hi o k q b. rw (number k q, w.away hi o) (z.side hi o, z.ok hi o);
        refs_agree = λ lo hi c k q b. rw (number k q, w.copy lo hi c, w.new) (z.agrees lo hi c);
        plains_agree = λ lo hi c k q b. absurd (omega arith);
      }

  pub ref_write_sim : Sim K m (with_memory s M') (with_record f (m v) (with_ref (record_at f (m v)) i p))
  unfolding record_at
  ref_write_sim = field-write_sim h written_ref
