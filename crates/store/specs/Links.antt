-- The plan of several links: the words that each is going to write, the list entries, and the store with them written.
use Rattle.std.specs.Prelude.{ℕ, ◌+◌, ◌*◌, ◌≤◌, cond, List, [], ◌∷◌, ◌++◌, eqb, length, Result, Ok, Err}
use Rattle.std.proofs.lemmas.List.Edits.{sets}
use Rattle.rules.specs.Refusals.{Tested, refused, done, Outcome}
use Rattle.rules.specs.Memory.{null, colour_at, grey, ref_field}
use Rattle.rules.specs.Control.{Store, with_memory, with_list}
use Rattle.rules.specs.declared.Writes.{Writes}
use Rattle.rules.specs.declared.StorePlan.{StorePlan}
use Rattle.heap.specs.Pending.{memory_with}
use Rattle.store.specs.declared.Control.{Control}
use Rattle.rules.specs.Answers.{number}
use Rattle.rules.specs.declared.Refusal.{Refusal}
use Rattle.heap.specs.declared.halves.Pending.{Pending}

-- the reference of word j of the record that v names, or null where v is
abbrev pub place_of : ℕ → ℕ → ℕ
place_of v j = cond (eqb v null) null (v + 2 * j)

-- what a link writes, as pending words: the colours of the records shaded, the field of the record and that of its replica
abbrev pub link_words : ℕ → ℕ → Writes → List Pending
link_words v i w =
    record { place = place_of w.first colour_at; word = grey }
    ∷ record { place = place_of w.second colour_at; word = grey }
    ∷ record { place = place_of v (ref_field i); word = w.own }
    ∷ record { place = place_of w.replica (ref_field i); word = w.copy }
    ∷ []

-- how many words that is
abbrev pub link_count : ℕ
link_count = 4

-- the greatest number of 32 bits
abbrev pub most_word : ℕ
most_word = 4294967295

-- the references of those words are such numbers
pub record Placeable (v i : ℕ) (w : Writes) : Type 0 where
  pub first : w.first + 2 * colour_at ≤ most_word
  pub second : w.second + 2 * colour_at ≤ most_word
  pub own : v + 2 * ref_field i ≤ most_word
  pub replica : w.replica + 2 * ref_field i ≤ most_word

-- the list entry of a record that is shaded, none for null; a link has two at most
abbrev pub entry_of : ℕ → List ℕ
entry_of v = cond (eqb v null) [] (v ∷ [])

abbrev pub link_entries : ℕ
link_entries = 2

-- what plans of links write: pending words, and entries at the list's end
pub record LinkWrites : Type 0 where
  pub words : List Pending
  pub entries : List ℕ

-- of no link
abbrev pub no_links : LinkWrites
no_links = record { words = []; entries = [] }

-- with those of one more, a plan of a store to reference field i
abbrev pub with_link : LinkWrites → StorePlan → ℕ → LinkWrites
with_link p q i =
    record {
      words = p.words ++ link_words q.into i q.writes;
      entries = p.entries ++ entry_of q.writes.first ++ entry_of q.writes.second;
    }

-- the store with all of it written
abbrev pub with_pending : Store → LinkWrites → Store
with_pending s p =
    with_list (with_memory s (memory_with p.words s.memory.half0 s.memory.half1 s.memory.frontier0 s.memory.frontier1))
    (sets s.list.words s.list.tail p.entries) s.list.head (s.list.tail + length p.entries)

-- how the plans of a call on s ended, by what the code hands out and what is planned: refused, or the store with what they write
abbrev pub linked : Store → Result (Unit {0}) Refusal → LinkWrites → Tested (Outcome Store)
linked s (Err r) p = refused (number r)
linked s (Ok u) p = done (with_pending s p)

-- the list has room for the entries
abbrev pub Listed : Control → LinkWrites → List ℕ → Type 0
Listed c p l = c.cursor.tail + length p.entries ≤ length l

-- the control record with the list's end moved
abbrev pub tailed : Control → ℕ → Control
tailed c end =
    record {
      length0 = c.length0;
      length1 = c.length1;
      capacity = c.capacity;
      cursor = record {
        current = c.cursor.current;
        frontier0 = c.cursor.frontier0;
        frontier1 = c.cursor.frontier1;
        phase = c.cursor.phase;
        place = c.cursor.place;
        field = c.cursor.field;
        head = c.cursor.head;
        tail = end;
      };
      births = c.births;
      globals = c.globals;
      sessions = c.sessions;
    }
