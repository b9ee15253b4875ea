-- What a collector step leaves.
use Rattle.rules.specs.Refusals.{Tested, refused, passed, Outcome, answer}
use Rattle.rules.specs.Control.{Store}
use Rattle.rules.specs.Answers.{Refused, Phase}

-- "The step answers the phase after it"
abbrev pub went : Store → Outcome Store
went t = record { store = t; reply = answer (Phase t.phase) }

-- the same of a unit of work: refused, it hands the store back as it came
abbrev pub stepped : Store → Tested Store → Outcome Store
stepped s (refused n) = record { store = s; reply = answer (Refused n) }
stepped s (passed t) = went t
