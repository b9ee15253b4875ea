-- The sessions looked at one after another: tests of all of them, the lowest attached one without a mark, and a change to each.
use Prim.Native.Nat.{ℕ, ◌+◌, ◌≤◌, ◌<◌}
use mathlib.Core.Path.{◌≡◌, refl}
use mathlib.Core.Bool.{not, ◌&&◌, ◌||◌}
use mathlib.Core.List.{List, ◌++◌, map}
use native.Mathlib.Omega.{arith}
use lib.Dec.{leb, eqb}
use lib.ListN.{length, take, drop, set, get_or}
use Rattle.std.specs.Prelude.{Some, None}
use Rattle.std.specs.List.{list_all, position_or_len}
use Rattle.std.proofs.lemmas.Grind.{common_steps}
use Rattle.std.proofs.lemmas.List.{get_or_default}
use Rattle.std.proofs.lemmas.List.Edits.{map_over_more}
use Rattle.std.proofs.lemmas.List.Recursion.{same_from_clauses, is_position_or_len}
use Rattle.rules.specs.Control.{levels_in_range, last_level}
use Rattle.rules.specs.Phases.{absent, all_at, lowest_unmarked}
use Rattle.rules.specs.declared.Session.{Session}
use Rattle.store.specs.Searching.{lowest_unscanned}

-- ---- tests of all of them

pub levels_lem : (l : List Session) → list_all (λ (x : Session). leb x.level last_level) l ≡ levels_in_range l
levels_lem = same_from_clauses _ levels_in_range (λ (x : Session) b. leb x.level last_level && b) refl (λ _ _. refl) (λ _ _. refl)

pub all_at_lem : (k : ℕ) (l : List Session) → list_all (λ (x : Session). not x.attached || eqb x.level k) l ≡ all_at k l
all_at_lem k = same_from_clauses _ (all_at k) (λ (x : Session) b. (not x.attached || eqb x.level k) && b) refl (λ _ _. refl) (λ _ _. refl)

-- ---- the lowest attached session without a mark

lowest_place : (xs : List Session) → lowest_unmarked xs ≡ position_or_len (λ (x : Session). x.attached && not x.scanned) xs
lowest_place xs = is_position_or_len lowest_unmarked (λ (x : Session). x.attached && not x.scanned) refl (λ x xs. grind arith) xs

-- by what the search found: its number, or that there is none
pub lowest_found : {n : ℕ} (xs : List Session) → Some n ≡ lowest_unscanned xs → (lowest_unmarked xs ≡ n) × (n < length xs)
lowest_found xs e = let p = lowest_place xs in grind arith

pub lowest_none : (xs : List Session) → None ≡ lowest_unscanned xs → length xs ≤ lowest_unmarked xs
lowest_none xs e = let p = lowest_place xs in grind arith

-- ---- a change to each of them

-- those before session i are changed, the others still as they were; then session i too
pub changed_more : (f : Session → Session) (old new : List Session) (i : ℕ) → i < length old → new ≡ map f (take i old) ++ drop i old
    → set new i (f (get_or new i absent)) ≡ map f (take (i + 1) old) ++ drop (i + 1) old
changed_more f old new i h e =
    let n : i < length new = rw e (grind (arith, common_steps)) in
    map_over_more f old new i (get_or new i absent) h e (get_or_default new i absent (get_or new i absent) n)
