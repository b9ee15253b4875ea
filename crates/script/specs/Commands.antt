-- The code's commands as the rules' calls, and what it finds in an input as the rules' entries.
use Rattle.std.specs.Prelude.{ℕ, List, Option, None, Some, Result, Ok, Err}
use Rattle.rules.specs.Answers.{answer_of}
use Rattle.rules.specs.declared.Value.{Value}
use Rattle.rules.specs.declared.Refusal.{Refusal}
use Rattle.rules.specs.Refusals.{Tested, Outcome, answer, refused, passed}
use Rattle.rules.specs.Control.{Store}
use Rattle.rules.specs.Runs as rules
use Rattle.rules.specs.Script as script
use Rattle.store.specs.declared.Control.{Control}
use Rattle.store.specs.View.{view}
use Rattle.script.specs.declared.entries.BadEntry.{BadEntry}
use Rattle.script.specs.declared.entries.Command.{Command}
use Rattle.script.specs.declared.entries.Command.TheVariants.{Attach, Detach, SafePoint, Allocate, Load, Store as StoreRef, Read, Write, Move, Clear, Same, Get, Put, Step}

-- the call that a command stands for
abbrev pub calling : Command → rules.Call
calling (Attach s) = rules.Attach s script.script_share
calling (Detach s) = rules.Detach s
calling (SafePoint s) = rules.SafePoint s
calling (Allocate s k r p) = rules.Allocate s k r p
calling (Load s to k i) = rules.Load s to k i
calling (StoreRef s k i from) = rules.StoreRef s k i from
calling (Read s k i) = rules.Read s k i
calling (Write s k i a) = rules.Write s k i a
calling (Move s to from) = rules.Move s to from
calling (Clear s k) = rules.Clear s k
calling (Same s a b) = rules.SameAs s a b
calling (Get s to g) = rules.Get s to g
calling (Put s g from) = rules.Put s g from
calling Step = rules.Step

-- what a body was decoded to
abbrev pub tested : Result Command BadEntry → Tested rules.Call
tested (Ok c) = passed (calling c)
tested (Err e) = refused 15

-- what was found at a place of the input
abbrev pub found : Result (Option (Command × ℕ)) BadEntry → script.Entry
found (Ok None) = script.ended
found (Err e) = script.bad
found (Ok (Some (c, j))) = script.call (calling c) j

-- the control record and the answer that a call leaves, with the words that it leaves
abbrev pub answered : Control → Result Value Refusal → List ℕ → List ℕ → List ℕ → Outcome Store
answered c a h0 h1 l = record { store = view c h0 h1 l; reply = answer (answer_of a) }
