-- The code's values as the rules' values.
use Rattle.std.specs.Prelude.{ℕ, List, Result}
use Rattle.rules.specs.Answers.{answer_of}
use Rattle.rules.specs.Refusals.{Outcome, answer}
use Rattle.rules.specs.Control.{Store, Lengths}
use Rattle.rules.specs.declared.Refusal.{Refusal}
use Rattle.rules.specs.declared.Value.{Value}
use Rattle.heap.specs.Pending.{laid}
use Rattle.heap.specs.declared.halves.Pending.{Pending}
use Rattle.store.specs.declared.Control.{Control}
use Rattle.store.specs.declared.lent.Lent.{Lent}
use Rattle.store.specs.declared.Reply.{Reply}

-- the control record over the words of half 0, half 1 and the list
abbrev pub view : Control → List ℕ → List ℕ → List ℕ → Store
view c h0 h1 l =
    record {
      lengths = record { half0 = c.length0; half1 = c.length1; list = c.capacity };
      memory = record { half0 = h0; half1 = h1; frontier0 = c.cursor.frontier0; frontier1 = c.cursor.frontier1 };
      current = c.cursor.current;
      phase = c.cursor.phase;
      walk = record { place = c.cursor.place; field = c.cursor.field };
      list = record { words = l; head = c.cursor.head; tail = c.cursor.tail };
      births = c.births;
      globals = c.globals;
      sessions = c.sessions;
    }

-- the same with pending words written
abbrev pub view_with : Control → List Pending → List ℕ → List ℕ → List ℕ → Store
view_with c xs h0 h1 l = view c (laid 0 xs h0) (laid 1 xs h1) l

-- both over the words lent
abbrev pub viewed : Control → Lent → Store
viewed c x = view c x.half0.now x.half1.now x.list.now

abbrev pub viewed_with : Control → List Pending → Lent → Store
viewed_with c xs x = view_with c xs x.half0.now x.half1.now x.list.now

-- what a call of the code leaves, with the words that it leaves
abbrev pub outcome : Reply → List ℕ → List ℕ → List ℕ → Outcome Store
outcome r h0 h1 l = record { store = view r.control h0 h1 l; reply = answer (answer_of r.answer) }

-- the same of a call that only reads, by its answer
abbrev pub answered : Control → Lent → Result Value Refusal → Outcome Store
answered c x a = outcome (record { control = c; answer = a }) x.half0.now x.half1.now x.list.now

-- the lengths of half 0, half 1 and the list
abbrev pub lengths : ℕ → ℕ → ℕ → Lengths
lengths n0 n1 n = record { half0 = n0; half1 = n1; list = n }
