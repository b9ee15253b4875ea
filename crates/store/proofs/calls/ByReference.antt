-- A load and a read past the tests on their session and registers are the field of the record that a reference names.
use Prim.Native.Nat.{ℕ}
use mathlib.Core.Path.{◌≡◌, refl, sym, ◌∙◌}
use mathlib.Core.Bool.{Bool, true, false, ◌&&◌}
use lib.Dec.{leb, ltb, eqb}
use lib.ListN.{length}
use borrow.Author.Tests.{le-leb}
use Rattle.rules.specs.Refusals.{Tested, refused, passed, check, ◌>>=◌, ◌>>◌, answered}
use Rattle.rules.specs.Memory.{null, word, refs, plains, ref_field, plain_field, followed}
use Rattle.rules.specs.Control.{Store}
use Rattle.rules.specs.Phases.{register}
use Rattle.rules.specs.Calls.{session_of, is_register, operands_of, record_of, load_plan, read}
use Rattle.rules.specs.declared.Session.{Session}
use Rattle.rules.specs.declared.Operands.{Operands}
use Rattle.rules.specs.Answers.{Word}
use Rattle.rules.proofs.Ranges.{together, fronts, in_session}
use Rattle.rules.proofs.memory.Cases.{bool_or}
use Rattle.store.specs.Fields.{reference_in, word_in, named, field_reference, field_word}

-- what a call works with, o, and then the tests on its record
then_followed : {A : Type 0} (f : Tested (Unit {0})) (o : Operands) (rest : Operands → Tested A) → (f >> passed o >>= rest) ≡ (f >> rest o)
then_followed (passed u) o rest = refl
then_followed (refused n) o rest = refl

-- what is made of the word last
made_last : {A B : Type 0} (f : Tested (Unit {0})) (b : Bool) (w : A) (g : A → Tested B)
    → (f >> (check b 13 >> g w)) ≡ (f >> (check b 13 >> passed w) >>= g)
made_last (passed u) true w g = refl
made_last (passed u) false w g = refl
made_last (refused n) b w g = refl

-- by what the call works with
module _ (s : Store) (n k i : ℕ) {o : Operands} where
  pub load_from : (to : ℕ) → operands_of s n k to ≡ passed o → load_plan s n to k i ≡ reference_in s.memory o.own i
  unfolding load_plan record_of reference_in
  load_from to e =
      rw e
      (then_followed (followed s.memory o.own) o
      (λ x. check (ltb i (refs s.memory x.own)) 13 >> passed (word s.memory x.own (ref_field i))))

  pub read-from : operands_of s n k k ≡ passed o → read s n k i ≡ (word_in s.memory o.own i >>= λ w. answered s (Word w))
  unfolding read record_of word_in
  read-from e =
      let M = s.memory in
      let v = o.own in
      rw e
      (then_followed (followed M v) o (λ x. check (ltb i (plains M x.own)) 13 >> answered s (Word (word M x.own (plain_field (refs M x.own) i))))
      ∙ made_last (followed M v) (ltb i (plains M v)) (word M v (plain_field (refs M v) i)) (λ w. answered s (Word w)))

-- by its session, whose tests passed
module _ (s : Store) (n k : ℕ) {x : Session} (e : session_of s n ≡ passed x) where
  within : (leb s.memory.frontier0 (length s.memory.half0) && leb s.memory.frontier1 (length s.memory.half1)) ≡ true
  within =
      let f = fronts (in_session s n e).known in together (le-leb _ _ f.0) (le-leb _ _ f.1)

  named-null : eqb (register x k) null ≡ true → named s.memory (register x k) ≡ refused 11
  unfolding named
  named-null z = rw (within, z)

  named_some : eqb (register x k) null ≡ false → named s.memory (register x k) ≡ passed tt
  unfolding named
  named_some z = rw (within, z)

  module _ (to : ℕ) (r : (is_register k && is_register to) ≡ true) where
    null_held : eqb (register x k) null ≡ true → operands_of s n k to ≡ refused 11
    unfolding operands_of
    null_held z = rw (e, r, z)

    held : eqb (register x k) null ≡ false → operands_of s n k to ≡ passed (record { level = x.level; own = register x k; other = register x to })
    unfolding operands_of
    held z = rw (e, r, z)

    loads_none : (i : ℕ) → eqb (register x k) null ≡ true → load_plan s n to k i ≡ field_reference s.memory (register x k) i
    unfolding load_plan record_of field_reference
    loads_none i z = rw (null_held z, named-null z)

    loads_some : (i : ℕ) → eqb (register x k) null ≡ false → field_reference s.memory (register x k) i ≡ reference_in s.memory (register x k) i
    unfolding field_reference
    loads_some i z = rw (named_some z)

    pub load_by : (i : ℕ) → load_plan s n to k i ≡ field_reference s.memory (register x k) i
    load_by i =
        bool_or (eqb (register x k) null)
        (λ z. loads_none i z)
        (λ z. load_from s n k i to (held z) ∙ sym (loads_some i z))

  reads_none : is_register k ≡ true → (i : ℕ) → eqb (register x k) null ≡ true
      → read s n k i ≡ (field_word s.memory (register x k) i >>= λ w. answered s (Word w))
  unfolding read record_of field_word
  reads_none r i z = rw (null_held k (together r r) z, named-null z)

  reads_some : (i : ℕ) → eqb (register x k) null ≡ false
      → (field_word s.memory (register x k) i >>= λ w. answered s (Word w)) ≡ (word_in s.memory (register x k) i >>= λ w. answered s (Word w))
  unfolding field_word
  reads_some i z = rw (named_some z)

  pub read_by : is_register k ≡ true → (i : ℕ) → read s n k i ≡ (field_word s.memory (register x k) i >>= λ w. answered s (Word w))
  read_by r i =
      bool_or (eqb (register x k) null)
      (λ z. reads_none r i z)
      (λ z. read-from s n k i (held k (together r r) z) ∙ sym (reads_some i z))
