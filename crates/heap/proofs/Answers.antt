-- A result that is damage is a refused test.
use mathlib.Core.Path.{◌≡◌, refl}
use Rattle.std.specs.Prelude.{Result, Ok, Err, IsErr}
use Rattle.rules.specs.Refusals.{refused, checked}
use Rattle.rules.specs.declared.Damage.{Damage}

pub checked_err : {A : Type 0} (x : Result A Damage) → IsErr x → checked x ≡ refused 12
checked_err (Ok a) e = cc
checked_err (Err d) e = refl
