-- The code's halves, heap, colours and records to shade as the rules' values.
use Rattle.std.specs.Prelude.{ℕ, List, Result, Ok, Err}
use Rattle.rules.specs.Refusals.{Tested, refused, passed}
use Rattle.rules.specs.Memory.{Memory, white, grey, black}
use Rattle.rules.specs.Barriers as rules
use Rattle.rules.specs.declared.Damage.{Damage}
use Rattle.heap.specs.View.{memory, records}
use Rattle.heap.specs.Pending.{memory_with}
use Rattle.heap.specs.declared.Colour.{Colour}
use Rattle.heap.specs.declared.Colour.TheVariants as colours
use Rattle.heap.specs.declared.halves.Halves.{Halves}
use Rattle.heap.specs.declared.halves.Heap.{Heap}

-- the halves with the words as they are now
abbrev pub as_written : Halves → Memory
as_written m = memory m.half0.now m.half1.now m.frontier0 m.frontier1

-- the halves with the pending words written
abbrev pub as_memory : Halves → Memory
as_memory m = memory_with m.pending.now m.half0.now m.half1.now m.frontier0 m.frontier1

-- what a barrier looks at
abbrev pub as_heap : Heap → rules.Heap
as_heap x = record { memory = as_memory x.halves; from = x.from; tail = x.tail; capacity = x.capacity }

-- the word of a colour
abbrev pub word_of_colour : Colour → ℕ
word_of_colour colours.White = white
word_of_colour colours.Grey = grey
word_of_colour colours.Black = black

-- what is shaded as a test of the rules
abbrev pub shaded : Result (ℕ × ℕ) Damage → Tested (List ℕ)
shaded (Ok vs) = passed (records vs.0 vs.1)
shaded (Err e) = refused 12
