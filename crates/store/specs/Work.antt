-- What a unit of the collector's work leaves, by what the code hands out of it: the words are written already.
use Rattle.std.specs.Prelude.{ℕ, true, List, set, Option, Some, None, Result, Ok, Err}
use Rattle.rules.specs.Refusals.{Outcome, answer}
use Rattle.rules.specs.Control.{Store, with_globals, with_sessions}
use Rattle.rules.specs.Phases.{session_at, with_session, with_registers, with_mark, unmarked, uncharged}
use Rattle.rules.specs.Answers as answers
use Rattle.rules.specs.Answers.{number}
use Rattle.rules.specs.declared.Damage.{Damage}
use Rattle.rules.specs.declared.Refusal.{Refusal}
use Rattle.rules.specs.declared.Session as rules
use Rattle.store.specs.Steps.{went}
use Rattle.store.specs.Cursors.{numbered}
use Rattle.store.specs.declared.Cursor.{Cursor}
use Rattle.store.specs.declared.work.Touch.{Touch}
use Rattle.store.specs.declared.work.Touch.TheVariants.{Nothing, Marks, Charges, Global, Session}
use Rattle.store.specs.declared.work.Next.{Next}

-- a session with the registers that were forwarded
abbrev pub with_forwarded : rules.Session → Option (List ℕ) → rules.Session
with_forwarded x None = x
with_forwarded x (Some registers) = with_registers x registers

-- what is touched beside the collector's numbers
abbrev pub touched : Store → Touch → Store
touched s Nothing = s
touched s Marks = with_sessions s (unmarked s.sessions)
touched s Charges = with_sessions s (uncharged (unmarked s.sessions))
touched s (Global k word) = with_globals s (set s.globals k word)
touched s (Session n f) = with_session s n (with_mark (with_forwarded (session_at s n) f) true)

-- the next numbers alone; on to the next phase with all marks cleared, and with all charges cleared too
abbrev pub untouched : Cursor → Next
untouched c = record { cursor = c; touch = Nothing }

abbrev pub moved : Cursor → Next
moved c = record { cursor = c; touch = Marks }

abbrev pub ended : Cursor → Next
ended c = record { cursor = c; touch = Charges }

-- what the step leaves and answers: refused, it has changed nothing
abbrev pub worked_or : Store → Result Next Refusal → Outcome Store
worked_or s (Err e) = record { store = s; reply = answer (answers.Refused (number e)) }
worked_or s (Ok n) = went (touched (numbered s n.cursor) n.touch)

-- the same of a phase, whose only refusal is 12, damage
abbrev pub worked : Store → Result Next Damage → Outcome Store
worked s (Err e) = record { store = s; reply = answer (answers.Refused 12) }
worked s (Ok n) = went (touched (numbered s n.cursor) n.touch)
