-- Making by what its tests handed out.
use Prim.Native.Nat.{ℕ}
use mathlib.Core.Path.{◌≡◌, ◌∙◌, sym, refl}
use mathlib.Core.List.{List}
use Rattle.rules.specs.Refusals.{Tested, refused, passed, tests_of, answer}
use Rattle.rules.specs.Control.{Store, making, make, new_store, lengths_of}
use Rattle.rules.specs.Answers.{Refused, Done}
use Rattle.store.specs.View.{lengths}

-- the tests of making give nothing more
alone : (t : Tested (Unit {0})) → t ≡ tests_of t
alone (refused n) = refl
alone (passed u) = refl

-- a refused making hands back the record with every number 0
pub unmade : {g : ℕ} {s : Store} (h0 h1 l : List ℕ)
    → refused g ≡ tests_of (making (lengths_of h0 h1 l)) → s ≡ new_store (lengths 0 0 0) h0 h1 l
    → record { store = s; reply = answer (Refused g) } ≡ make h0 h1 l
unfolding make
unmade h0 h1 l e k = rw (alone (making (lengths_of h0 h1 l)) ∙ sym e, k)

pub made : {s : Store} (h0 h1 l : List ℕ)
    → passed tt ≡ tests_of (making (lengths_of h0 h1 l)) → s ≡ new_store (lengths_of h0 h1 l) h0 h1 l
    → record { store = s; reply = answer Done } ≡ make h0 h1 l
unfolding make
made h0 h1 l e k = rw (alone (making (lengths_of h0 h1 l)) ∙ sym e, k)
