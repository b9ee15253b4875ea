-- Pairs and the members of a group: who is paired, and pairs left out.
use Prim.Native.Nat.{ℕ, suc, ◌+◌}
use mathlib.Core.Path.{◌≡◌, refl, ap, ◌∙◌}
use mathlib.Core.Bool.{Bool, true, false, cond, ◌&&◌, ◌||◌, false≢true}
use mathlib.Core.List.{List, [], ◌∷◌}
use lib.Dec.{eqb}
use lib.ListN.{length}
use borrow.Author.Tests.{eqb-true, eq-eqb}
use native.Mathlib.Omega.{arith}
use Rattle.rules.proofs.memory.Cases.{bool_or, eqb_swap}
use Rattle.directory_rules.specs.Table.{Pair, among, paired, unpair, without_person, members_of}
use Rattle.directory_rules.proofs.tables.Numbers.{Distinct, one_more, or_parts}

-- ---- paired

paired_one : (a b : Bool) (n p : ℕ) (ms : List ℕ) (r : Bool) → eqb n p ≡ a → r ≡ among n ms → (a && b) || r ≡ among n (cond b (p ∷ ms) ms)
paired_one true true n p ms r e h = rw e
paired_one true false n p ms r e h = h
paired_one false true n p ms r e h = rw e h
paired_one false false n p ms r e h = h

pub paired-members : (n g : ℕ) (ps : List Pair) → paired n g ps ≡ among n (members_of g ps)
paired-members n g [] = refl
paired-members n g (x ∷ xs) = paired_one (eqb n x.person) (eqb g x.group) n x.person (members_of g xs) (paired n g xs) refl (paired-members n g xs)

-- ---- a pair that isn't there

none_one : (b r : Bool) (x : Pair) (xs ys : List Pair) → b || r ≡ false → (r ≡ false → ys ≡ xs) → cond b ys (x ∷ ys) ≡ x ∷ xs
none_one true r x xs ys e h = cc
none_one false r x xs ys e h = ap (x ∷◌) (h e)

pub unpair_none : (n g : ℕ) (ps : List Pair) → paired n g ps ≡ false → unpair n g ps ≡ ps
unpair_none n g [] e = refl
unpair_none n g (x ∷ xs) e = none_one (eqb n x.person && eqb g x.group) (paired n g xs) x xs (unpair n g xs) e (unpair_none n g xs)

-- ---- a person's pairs with each of some groups

abbrev pub unpair_all : ℕ → List ℕ → List Pair → List Pair
unpair_all n [] ps = ps
unpair_all n (g ∷ gs) ps = unpair_all n gs (unpair n g ps)

unpair-all_none : (n : ℕ) (gs : List ℕ) → unpair_all n gs [] ≡ []
unpair-all_none n [] = refl
unpair-all_none n (g ∷ gs) = unpair-all_none n gs

unpair-all-step : (a b c : Bool) (n : ℕ) (gs : List ℕ) (x : Pair) (xs : List Pair)
    → unpair_all n gs (x ∷ xs) ≡ cond (a && c) (unpair_all n gs xs) (x ∷ unpair_all n gs xs)
    → unpair_all n gs (cond (a && b) xs (x ∷ xs)) ≡ cond (a && (b || c)) (unpair_all n gs xs) (x ∷ unpair_all n gs xs)
unpair-all-step true true c n gs x xs h = refl
unpair-all-step true false c n gs x xs h = h
unpair-all-step false b c n gs x xs h = h

-- the first pair stays, unless it is of the person and one of the groups
unpair-all_cons : (n : ℕ) (gs : List ℕ) (x : Pair) (xs : List Pair)
    → unpair_all n gs (x ∷ xs) ≡ cond (eqb n x.person && among x.group gs) (unpair_all n gs xs) (x ∷ unpair_all n gs xs)
unpair-all_cons n [] x xs = none (eqb n x.person)
  where
    none : (a : Bool) → x ∷ xs ≡ cond (a && false) xs (x ∷ xs)
    none true = refl
    none false = refl
unpair-all_cons n (g ∷ gs) x xs =
    rw (eqb_swap x.group g)
    (unpair-all-step (eqb n x.person) (eqb g x.group) (among x.group gs) n gs x (unpair n g xs) (unpair-all_cons n gs x (unpair n g xs)))

fewer : (b : Bool) (p : ℕ) (ms : List ℕ) → cond b (p ∷ ms) ms ≡ [] → ms ≡ []
fewer true p ms e = absurd (let z : ◌≡◌ {A = ℕ} 0 1 = cc in omega arith)
fewer false p ms e = e

some_member : (g p : ℕ) (ms : List ℕ) → cond (eqb g g) (p ∷ ms) ms ≡ [] → ⊥
some_member g p ms e = let q : eqb g g ≡ true = eq-eqb g g refl in let z : ◌≡◌ {A = ℕ} 0 1 = cc (rw q at e) in omega arith

-- ---- how many pairs there are

-- the members of some groups, counted group by group
abbrev pub member_count : List ℕ → List Pair → ℕ
member_count [] ps = 0
member_count (g ∷ gs) ps = length (members_of g ps) + member_count gs ps

none_counted : (gs : List ℕ) → member_count gs [] ≡ 0
none_counted [] = refl
none_counted (g ∷ gs) = omega (arith, none_counted gs)

-- a pair more counts where its group is, once
counted_none : (x : Pair) (xs : List Pair) (gs : List ℕ) → among x.group gs ≡ false → member_count gs (x ∷ xs) ≡ member_count gs xs
counted_none x xs [] e = refl
counted_none x xs (g ∷ gs) e = or_parts (eqb x.group g) (among x.group gs) e
    (λ a b. rw (eqb_swap g x.group, a, counted_none x xs gs b))

counted_one : (x : Pair) (xs : List Pair) (gs : List ℕ) → Distinct gs → among x.group gs ≡ true → member_count gs (x ∷ xs) ≡ suc (member_count gs xs)
counted_one x xs [] d e = absurd (false≢true e)
counted_one x xs (g ∷ gs) (one_more new d) e = bool_or (eqb x.group g)
    (λ a. let z : x.group ≡ g = eqb-true x.group g a in
    rw (eqb_swap g x.group, a, counted_none x xs gs (rw z new)) (omega arith))
    (λ a. rw (eqb_swap g x.group, a, counted_one x xs gs d (rw a at e)) (omega arith))

-- each pair is of one of the groups
pub members_total : (gs : List ℕ) (ps : List Pair) → Distinct gs → ((g : ℕ) → among g gs ≡ false → members_of g ps ≡ []) → member_count gs ps ≡ length ps
members_total gs [] d h = none_counted gs
members_total gs (x ∷ xs) d h =
    let e : among x.group gs ≡ true = bool_or (among x.group gs) (λ a. a) (λ a. absurd (some_member x.group x.person (members_of x.group xs) (h x.group a))) in
    counted_one x xs gs d e ∙ ap suc (members_total gs xs d (λ g a. fewer (eqb g x.group) x.person (members_of g xs) (h g a)))

-- ---- a person's pairs with all groups

pub unpair-all : (n : ℕ) (gs : List ℕ) (ps : List Pair) → ((g : ℕ) → among g gs ≡ false → members_of g ps ≡ []) → unpair_all n gs ps ≡ without_person n ps
unpair-all n gs [] h = unpair-all_none n gs
unpair-all n gs (x ∷ xs) h =
    let e : among x.group gs ≡ true = bool_or (among x.group gs) (λ a. a) (λ a. absurd (some_member x.group x.person (members_of x.group xs) (h x.group a))) in
    let r : unpair_all n gs xs ≡ without_person n xs = unpair-all n gs xs (λ g a. fewer (eqb g x.group) x.person (members_of g xs) (h g a)) in
    rw (unpair-all_cons n gs x xs, e, r) (both (eqb n x.person))
  where
    both : (a : Bool) → cond (a && true) (without_person n xs) (x ∷ without_person n xs) ≡ cond a (without_person n xs) (x ∷ without_person n xs)
    both true = refl
    both false = refl
