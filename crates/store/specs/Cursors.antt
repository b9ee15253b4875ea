-- The collector's numbers: a store that has them, and how a unit of work changes them.
use Rattle.std.specs.Prelude.{ℕ, ◌≤◌, ◌≡◌, cond, List, eqb, length}
use Rattle.rules.specs.Cycle.{next_phase, last_phase}
use Rattle.rules.specs.Control.{Store, most_fields, most_length}
use Rattle.store.specs.declared.Cursor.{Cursor}

-- the store with the numbers of a cursor, over the words of half 0, half 1 and the list
abbrev pub having : Store → Cursor → List ℕ → List ℕ → List ℕ → Store
having s c h0 h1 l =
    record {
      lengths = s.lengths;
      memory = record { half0 = h0; half1 = h1; frontier0 = c.frontier0; frontier1 = c.frontier1 };
      current = c.current;
      phase = c.phase;
      walk = record { place = c.place; field = c.field };
      list = record { words = l; head = c.head; tail = c.tail };
      births = s.births;
      globals = s.globals;
      sessions = s.sessions;
    }

-- the same over its own words
abbrev pub numbered : Store → Cursor → Store
numbered s c = having s c s.memory.half0 s.memory.half1 s.list.words

-- the walk at a place and a field
abbrev pub at_walk : Cursor → ℕ → ℕ → Cursor
at_walk c k i =
    record {
      current = c.current;
      frontier0 = c.frontier0;
      frontier1 = c.frontier1;
      phase = c.phase;
      place = k;
      field = i;
      head = c.head;
      tail = c.tail;
    }

-- the next phase, the walk at its start
abbrev pub moved_on : Cursor → Cursor
moved_on c =
    record {
      current = c.current;
      frontier0 = c.frontier0;
      frontier1 = c.frontier1;
      phase = next_phase c.phase;
      place = 0;
      field = 0;
      head = c.head;
      tail = c.tail;
    }

-- the frontier of half h
abbrev pub at_frontier : Cursor → ℕ → ℕ → Cursor
at_frontier c h end =
    record {
      current = c.current;
      frontier0 = cond (eqb h 0) end c.frontier0;
      frontier1 = cond (eqb h 0) c.frontier1 end;
      phase = c.phase;
      place = c.place;
      field = c.field;
      head = c.head;
      tail = c.tail;
    }

-- the list's place and end
abbrev pub at_list : Cursor → ℕ → ℕ → Cursor
at_list c i j =
    record {
      current = c.current;
      frontier0 = c.frontier0;
      frontier1 = c.frontier1;
      phase = c.phase;
      place = c.place;
      field = c.field;
      head = i;
      tail = j;
    }

-- the current half
abbrev pub at_half : Cursor → ℕ → Cursor
at_half c h =
    record {
      current = h;
      frontier0 = c.frontier0;
      frontier1 = c.frontier1;
      phase = c.phase;
      place = c.place;
      field = c.field;
      head = c.head;
      tail = c.tail;
    }

-- what a unit of work asks of the numbers and the lent halves; test 4 gives it
pub record Ready (c : Cursor) (h0 h1 : List ℕ) : Type 0 where
  pub half : c.current ≤ 1
  pub low : c.frontier0 ≤ length h0
  pub high : c.frontier1 ≤ length h1
  pub phases : c.phase ≤ last_phase
  pub places : c.place ≤ most_length
  pub fields : c.field ≤ most_fields
  pub equal : length h0 ≡ length h1
  pub most : length h0 ≤ most_length
