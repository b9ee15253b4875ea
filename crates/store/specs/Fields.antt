-- A field of the record that a reference names: what a load and a read do past the tests on the session and its registers.
use Rattle.std.specs.Prelude.{ℕ, not, ◌&&◌, leb, ltb, eqb, length}
use Rattle.rules.specs.Refusals.{Tested, passed, check, ◌>>◌}
use Rattle.rules.specs.Memory.{Memory, null, word, refs, plains, ref_field, plain_field, followed}

-- 12, 13: what reference field i holds
unfoldable pub reference_in : Memory → ℕ → ℕ → Tested ℕ
reference_in M v i = do
  followed M v
  check (ltb i (refs M v)) 13
  passed (word M v (ref_field i))

-- 12, 13: the word of plain field i
unfoldable pub word_in : Memory → ℕ → ℕ → Tested ℕ
word_in M v i = do
  followed M v
  check (ltb i (plains M v)) 13
  passed (word M v (plain_field (refs M v) i))

-- 4, 11: of any numbers and any memory, that the frontiers are within the halves and that v isn't null
unfoldable pub named : Memory → ℕ → Tested (Unit {0})
named M v = do
  check (leb M.frontier0 (length M.half0) && leb M.frontier1 (length M.half1)) 4
  check (not (eqb v null)) 11

unfoldable pub field_reference : Memory → ℕ → ℕ → Tested ℕ
field_reference M v i = do
  named M v
  reference_in M v i

unfoldable pub field_word : Memory → ℕ → ℕ → Tested ℕ
field_word M v i = do
  named M v
  word_in M v i
