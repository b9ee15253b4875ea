-- A sound table: no number twice, none too big, no members of unknown groups. It stays sound with a person, a group or a pair more, and with a
-- pair or a person less.
use Prim.Native.Nat.{ℕ, ◌≤◌}
use mathlib.Core.Path.{◌≡◌, refl, sym, ap, ◌∙◌}
use mathlib.Core.Bool.{true, false, false≢true}
use mathlib.Core.List.{List, [], ◌∷◌, ◌++◌}
use lib.Dec.{eqb}
use borrow.Author.Tests.{eqb-true}
use native.Mathlib.Omega.{arith}
use Rattle.rules.proofs.memory.Cases.{bool_or, eq_or}
use Rattle.directory_rules.specs.Table.{Table, new_table, among, without, unpair, members_of, last_number, with_people, with_groups, with_pairs}
use Rattle.directory_rules.proofs.tables.Numbers.{Distinct, no_more, true-false, or_parts, among-append, among-without, distinct_snoc, distinct_without}
use Rattle.directory_rules.proofs.tables.Members.{members_pair, members_pair_other, members-unpair, members-unpair_other}

-- none of these numbers is too big
abbrev Small : List ℕ → Type 0
Small ns = (n : ℕ) → among n ns ≡ true → n ≤ last_number

-- every person, group and member once, small numbers, no member of a group that isn't there
pub record SoundTable (t : Table) : Type 0 where
  pub people : Distinct t.people
  pub groups : Distinct t.groups
  pub small : Small t.people
  pub members : (g : ℕ) → Distinct (members_of g t.pairs)
  pub low : (g : ℕ) → Small (members_of g t.pairs)
  pub unknown : (g : ℕ) → among g t.groups ≡ false → members_of g t.pairs ≡ []

pub sound_new : SoundTable new_table
sound_new = record { people = no_more; groups = no_more; small = λ n e. absurd (false≢true e); members = λ g. no_more; low = λ g n e. absurd (false≢true e); unknown = λ g e. refl }

small_snoc : (n : ℕ) (ns : List ℕ) → n ≤ last_number → Small ns → Small (ns ++ (n ∷ []))
small_snoc n ns small h m e = bool_or (among m ns) (h m) (λ a. bool_or (eqb m n)
    (λ b. let z : m ≡ n = eqb-true m n b in omega arith)
    (λ b. absurd (true-false (rw (among-append m ns (n ∷ []), a, b)) e)))

small-without : (n : ℕ) (ns : List ℕ) → Small ns → Small (without n ns)
small-without n ns h m e = bool_or (among m ns) (h m) (λ a. absurd (true-false (among-without m n ns a) e))

module _ {t : Table} (s : SoundTable t) where
  pub sound-person : (n : ℕ) → n ≤ last_number → among n t.people ≡ false → SoundTable (with_people t (t.people ++ (n ∷ [])))
  sound-person n small new =
      record {
        people = distinct_snoc n new s.people;
        groups = s.groups;
        small = small_snoc n t.people small s.small;
        members = s.members;
        low = s.low;
        unknown = s.unknown;
      }

  pub sound-group : (g : ℕ) → among g t.groups ≡ false → SoundTable (with_groups t (t.groups ++ (g ∷ [])))
  sound-group g new =
      record {
        people = s.people;
        groups = distinct_snoc g new s.groups;
        small = s.small;
        members = s.members;
        low = s.low;
        unknown = λ k e. or_parts (among k t.groups) (among k (g ∷ [])) (sym (among-append k t.groups (g ∷ [])) ∙ e) (λ a b. s.unknown k a);
      }

  pub sound_pair : (n g : ℕ) → n ≤ last_number → among g t.groups ≡ true → among n (members_of g t.pairs) ≡ false
      → SoundTable (with_pairs t (t.pairs ++ (record { person = n; group = g } ∷ [])))
  sound_pair n g small there new =
      record {
        people = s.people;
        groups = s.groups;
        small = s.small;
        members = λ k. eq_or k g
            (λ e. rw (e, members_pair n g t.pairs) (distinct_snoc n new (s.members g)))
            (λ d. rw (members_pair_other n g t.pairs k d) (s.members k));
        low = λ k. eq_or k g
            (λ e. rw (e, members_pair n g t.pairs) (small_snoc n (members_of g t.pairs) small (s.low g)))
            (λ d. rw (members_pair_other n g t.pairs k d) (s.low k));
        unknown = λ k e. members_pair_other n g t.pairs k (λ z. true-false e (rw z there)) ∙ s.unknown k e;
      }

  pub sound-unpair : (n g : ℕ) → SoundTable (with_pairs t (unpair n g t.pairs))
  sound-unpair n g =
      record {
        people = s.people;
        groups = s.groups;
        small = s.small;
        members = λ k. eq_or k g
            (λ e. rw (e, members-unpair n g t.pairs) (distinct_without n (s.members g)))
            (λ d. rw (members-unpair_other n g k t.pairs d) (s.members k));
        low = λ k. eq_or k g
            (λ e. rw (e, members-unpair n g t.pairs) (small-without n (members_of g t.pairs) (s.low g)))
            (λ d. rw (members-unpair_other n g k t.pairs d) (s.low k));
        unknown = λ k e. eq_or k g
            (λ z. rw z (members-unpair n g t.pairs ∙ ap (without n) (s.unknown g (rw z at e))))
            (λ d. members-unpair_other n g k t.pairs d ∙ s.unknown k e);
      }

  pub sound_unperson : (n : ℕ) → SoundTable (with_people t (without n t.people))
  sound_unperson n =
      record {
        people = distinct_without n s.people;
        groups = s.groups;
        small = small-without n t.people s.small;
        members = s.members;
        low = s.low;
        unknown = s.unknown;
      }
