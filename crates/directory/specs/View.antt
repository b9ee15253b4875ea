-- What the code hands back, as what an act or a directory call leaves.
use Rattle.std.specs.Prelude.{ℕ, ◌≡◌, List, [], Result}
use Rattle.rules.specs.Refusals.{Tested, refused, passed}
use Rattle.rules.specs.Control.{Store}
use Rattle.store.specs.View.{view}
use Rattle.store.specs.declared.Control.{Control}
use Rattle.directory_rules.specs.Table.{Given}
use Rattle.directory_rules.specs.Acts.{Performed}
use Rattle.directory_rules.specs.Directory.{Left}
use Rattle.directory.specs.Answers.{number_of, count_of, tested}
use Rattle.directory.specs.declared.lent.Lent.{Lent}
use Rattle.directory.specs.declared.lent.LentMut.{LentMut}
use Rattle.directory.specs.declared.Refusal.{Refusal}
use Rattle.directory.specs.declared.Reply.{Reply}

-- the words that a call is lent: those of half 0, half 1 and the list
pub record Words : Type 0 where
  pub half0 : List ℕ
  pub half1 : List ℕ
  pub list : List ℕ

abbrev pub words_of : Lent → Words
words_of l = record { half0 = l.h0.now; half1 = l.h1.now; list = l.list.now }

abbrev pub words_of_mut : LentMut → Words
words_of_mut l = record { half0 = l.h0.now; half1 = l.h1.now; list = l.list.now }

-- the same references
pub record Same (a b : LentMut) : Type 0 where
  pub half0 : b.h0.ghost_name ≡ a.h0.ghost_name
  pub half1 : b.h1.ghost_name ≡ a.h1.ghost_name
  pub list : b.list.ghost_name ≡ a.list.ghost_name

-- the control record over them, as a store of the rules
abbrev pub over : Control → Words → Store
over c w = view c w.half0 w.half1 w.list

abbrev pub viewed : Control → Lent → Store
viewed c l = over c (words_of l)

abbrev pub viewed_mut : Control → LentMut → Store
viewed_mut c l = over c (words_of_mut l)

-- what an act leaves: the store, and its refusal or result
abbrev pub left_in : {A : Type 0} → Store → Result A Refusal → Performed Store A
left_in s r = record { store = s; result = tested r }

abbrev pub acted : {A : Type 0} → Control → Lent → Result A Refusal → Performed Store A
acted c l r = left_in (viewed c l) r

abbrev pub acted_mut : {A : Type 0} → Control → LentMut → Result A Refusal → Performed Store A
acted_mut c l r = left_in (viewed_mut c l) r

-- ---- what a call leaves, with the lent words as it leaves them

abbrev pub given : Result ℕ Refusal → List ℕ → Given
given a ws = record { number = number_of a; count = count_of a; words = ws }

abbrev pub left : Reply → List ℕ → List ℕ → List ℕ → List ℕ → Left
left r h0 h1 l ws = record { store = view r.control h0 h1 l; given = given r.answer ws }

abbrev pub answered : Control → Lent → Result ℕ Refusal → List ℕ → Left
answered c l a ws = record { store = viewed c l; given = given a ws }

-- of a call that is lent no words
abbrev pub answered_mut : Control → LentMut → Result ℕ Refusal → Left
answered_mut c l a = record { store = viewed_mut c l; given = given a [] }

-- an act's refusal, with count 0 and the lent words as they came, or its result
abbrev pub given_as : List ℕ → Tested Given → Given
given_as ws (refused n) = record { number = n; count = 0; words = ws }
given_as ws (passed a) = a

abbrev pub left_by : List ℕ → Performed Store Given → Left
left_by ws p = record { store = p.store; given = given_as ws p.result }
