-- What a function does that is handed to a call, to be done between the safe point and the end.
use Rattle.std.specs.Prelude.{◌≡◌, Result}
use Rattle.std.specs.Borrow.{MutBor}
use Rattle.store.specs.declared.Control.{Control}
use Rattle.directory_rules.specs.Acts.{Act, perform}
use Rattle.directory.specs.View.{Same, viewed_mut, acted_mut}
use Rattle.directory.specs.declared.lent.LentMut.{LentMut}
use Rattle.directory.specs.declared.Refusal.{Refusal}

-- `post` of the function, without the function: it performs the act, and keeps the references
abbrev pub Performs : (MutBor Control → MutBor LentMut → Result (Unit {0}) Refusal → MutBor Control → MutBor LentMut → Type 0) → Act (Unit {0}) → Type 0
Performs post a =
    (c c' : MutBor Control) (l l' : MutBor LentMut) (r : Result (Unit {0}) Refusal) → post c l r c' l'
    → (acted_mut c'.now l'.now r ≡ perform (viewed_mut c.now l.now) a) × Same l.now l'.now
