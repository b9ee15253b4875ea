-- What the directory holds: one record for each person, group and membership, and nothing else. So a removal gives its words back.
use Rattle.std.specs.Prelude.{ℕ, ◌+◌, ◌*◌, ◌<◌, ◌≡◌, ◌≢◌, true, get_or, length}
use mathlib.Core.List.{List, ◌∷◌, ◌++◌, Memᴰ}
use Rattle.rules.specs.Memory.{null}
use Rattle.rules.specs.Cycle.{at_rest}
use Rattle.rules.specs.Control.{Store}
use Rattle.rules.specs.Runs.{Step}
use Rattle.rules.specs.Free.{Free, record_at, free_session, free_register}
use Rattle.rules.specs.Tracking.{Reached, words_at}
use Rattle.rules.specs.Claims.{Made, left_in}
use Rattle.directory_rules.specs.Table.{Table, new_table}
use Rattle.directory_rules.specs.Acts.{own_session, own_global}
use Rattle.directory_rules.specs.Runs.{Item, call, allowed, after_items, beside_items, feeds_of, table_end}

-- the places that session 15's registers and global 31 reach, over reference fields
pub data OwnReached (f : Free) : ℕ → Type 0 where
  by_register : (k : ℕ) → free_register (free_session f own_session) k ≢ null → OwnReached f (free_register (free_session f own_session) k)
  by_global : get_or f.globals own_global null ≢ null → OwnReached f (get_or f.globals own_global null)
  by_field : (q i : ℕ) → OwnReached f q → get_or (record_at f q).refs i null ≢ null → OwnReached f (get_or (record_at f q).refs i null)

-- the words of a person's record, of a group's and of a membership's
abbrev pub person_words : ℕ
person_words = 6

abbrev pub group_words : ℕ
group_words = 7

abbrev pub link_words : ℕ
link_words = 6

-- one record for each person, group and membership of the table
pub record Holds (f : Free) (t : Table) : Type 0 where
  -- the places of these records: just what the directory reaches
  pub places : List ℕ
  pub reached : (q : ℕ) → OwnReached f q → Memᴰ q places
  pub reaches : (q : ℕ) → Memᴰ q places → OwnReached f q
  -- each is there once
  pub once : (i j : ℕ) → i < length places → j < length places → get_or places i 0 ≡ get_or places j 0 → i ≡ j
  pub count : length places ≡ length t.people + length t.groups + length t.pairs
  pub words : words_at f places ≡ person_words * length t.people + group_words * length t.groups + link_words * length t.pairs

-- in every run, with the table after it
unfoldable pub OneRecordEach : Type 0
OneRecordEach =
    (s : Store) → Made s → (xs : List Item) → allowed xs ≡ true → Holds (beside_items s xs).free (table_end new_table (feeds_of s xs))

-- in every run: what the directory has reached once, nobody else ever reaches. So what it no longer reaches, nobody does
unfoldable pub DirectoryAlone : Type 0
DirectoryAlone =
    (s : Store) → Made s → (xs ys : List Item) → allowed (xs ++ ys) ≡ true
    → (q : ℕ) → OwnReached (beside_items s xs).free q
    → Reached (beside_items s (xs ++ ys)).free q → OwnReached (beside_items s (xs ++ ys)).free q

-- in every run: a record that the directory reached after xs, and no longer when a collection began, takes up no word when it has ended
unfoldable pub RemovedFreed : Type 0
RemovedFreed =
    (s : Store) → Made s → (xs ys zs : List Item) → allowed (xs ++ ys) ≡ true
    → (q : ℕ) → OwnReached (beside_items s xs).free q → (OwnReached (beside_items s (xs ++ ys)).free q → ⊥)
    → (after_items s (xs ++ ys)).phase ≡ at_rest → (after_items s ((xs ++ ys) ++ (call Step ∷ zs))).phase ≡ at_rest
    → Memᴰ q (left_in (beside_items s ((xs ++ ys) ++ (call Step ∷ zs)))) → ⊥
