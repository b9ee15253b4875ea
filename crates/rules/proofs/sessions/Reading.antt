-- The calls that read a record: load, read, the birth number, the stretch and its companion.
use Prim.Native.Nat.{ℕ, zero, suc, ◌+◌, ◌-◌, ◌≤◌, ◌<◌}
use mathlib.Core.Path.{◌≡◌, refl, sym, ap, ◌∙◌}
use mathlib.Core.Bool.{◌&&◌, and_comm, and_self}
use mathlib.Core.List.{List}
use native.Mathlib.Omega.{arith}
use lib.Dec.{ltb}
use lib.ListN.{get_or, length, take, drop, length-drop}
use lib.Seq.{ext_get_or, length-take-le, get_or-take, get_or-drop}
use borrow.Author.Tests.{ltb-true}
use Rattle.rules.specs.Refusals.{answer}
use Rattle.rules.specs.Memory.{Memory, half, half_of, word_of, header, word, refs, plains}
use Rattle.rules.specs.Control.{Store}
use Rattle.rules.specs.Phases.{session_at, register}
use Rattle.rules.specs.Calls as calls
use Rattle.rules.specs.Calls.{is_register}
use Rattle.rules.specs.Free.{Free, free_load, free_read, free_birth, free_stretch}
use Rattle.rules.specs.Answers.{Word}
use Rattle.rules.proofs.Ranges.{both}
use Rattle.rules.proofs.memory.Records.{Start, Filled, start_inside, size-fields}
use Rattle.rules.proofs.invariant.Words.{plain_of}
use Rattle.rules.proofs.invariant.Sim.{Sim}
use Rattle.rules.proofs.relation.Alike.{Alike, Both, passed_both, both_check_eq, both_commit, alike_done}
use Rattle.rules.proofs.relation.Tests.{Attached, both_record}
use Rattle.rules.proofs.sessions.Registers.{set-left, held_fits}
use Rattle.rules.proofs.sessions.Values.{Fields, record_values}

module _ {K : ℕ → Type 0} {m : ℕ → ℕ} {s : Store} {f : Free} (h : Sim K m s f) where
  -- the record in register k of the call's session
  held_values : (n k : ℕ) → Attached s n → Start s.memory (register (session_at s n) k)
      → Fields K m s f (session_at s n) (register (session_at s n) k)
  held_values n k a z = record_values h (held_fits h n k a) z

  pub load_alike : (n to k i q : ℕ) → Alike K q m s (calls.load s n to k i) (free_load f n to k i)
  unfolding calls.load calls.load_plan free_load
  load_alike n to k i q = both_commit _ (both_record h n k to (is_register to && is_register k) (and_comm (is_register k) (is_register to)) _ _
      (λ a b z p. let w = held_values n k a z in
      both_check_eq _ _ 13 (ap (ltb i) (sym w.nrefs)) tt
      (λ l. passed_both (set-left h n to a (both _ _ b).0 (w.ref i (ltb-true _ _ l))))))

  pub read_alike : (n k i q : ℕ) → Alike K q m s (calls.read s n k i) (free_read f n k i)
  unfolding calls.read free_read
  read_alike n k i q = both_record h n k k (is_register k) (and_self (is_register k)) _ _
      (λ a b z p. let w = held_values n k a z in
      both_check_eq _ _ 13 (ap (ltb i) (sym w.nplains)) tt
      (λ l. alike_done h (ap (λ u. answer (Word u)) (sym (w.plain i (ltb-true _ _ l)))) refl refl (λ c z. z)))

  -- its place is the collector-free register
  pub birth_alike : (n k q : ℕ) → Alike K q m s (calls.birth s n k) (free_birth f n k)
  unfolding calls.birth free_birth
  birth_alike n k q = both_record h n k k (is_register k) (and_self (is_register k)) _ _
      (λ a b z p. alike_done h (ap (λ u. answer (Word u)) (h.identity.born _ z)) refl refl (λ c z. z))

-- ---- the stretch

abbrev stretch_at : Memory → ℕ → List ℕ
stretch_at M v = take (plains M v) (drop (word_of v + header + refs M v) (half M (half_of v)))

-- it has as many words as the record has plain fields, and these are they
module _ {M : Memory} (f : Filled M) {v : ℕ} (z : Start M v) where
  stretch-length : length (stretch_at M v) ≡ plains M v
  stretch-length = length-take-le (plains M v) (drop (word_of v + header + refs M v) (half M (half_of v))) (rw length-drop (room (plains M v) refl))
    where
      room : (p : ℕ) → plains M v ≡ p → p ≤ length (half M (half_of v)) - (word_of v + header + refs M v)
      room zero e = omega arith
      room (suc p) e = let l = start_inside f z (header + refs M v + p) (omega (arith, size-fields M v)) in omega arith

  stretch-word : (i : ℕ) → i < plains M v → get_or (stretch_at M v) i 0 ≡ plain_of M v i
  unfolding word
  stretch-word i l = get_or-take (plains M v) _ i 0 l ∙ get_or-drop (word_of v + header + refs M v) (half M (half_of v)) i 0
      ∙ ap (λ j. get_or (half M (half_of v)) j 0) (omega arith)

module _ {K : ℕ → Type 0} {m : ℕ → ℕ} {s : Store} {f : Free} (h : Sim K m s f) where
  pub stretch_both : (n k : ℕ) → Both (λ a b. a ≡ b) (calls.stretch s n k) (free_stretch f n k)
  unfolding calls.stretch free_stretch
  stretch_both n k = both_record h n k k (is_register k) (and_self (is_register k)) _ _
      (λ a b z p. let w = held_values h n k a z in passed_both
      (ext_get_or 0 _ _ (stretch-length h.filled z ∙ sym w.nplains)
      (λ i l. stretch-word h.filled z i (omega (arith, stretch-length h.filled z)) ∙ sym (w.plain i (omega (arith, stretch-length h.filled z))))))
