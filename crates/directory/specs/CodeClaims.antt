-- What is claimed of runs with directory calls beside their answers, of the code.
use Rattle.std.specs.Prelude.{ℕ, ◌+◌, ◌≤◌, ◌≡◌, ◌≢◌, true, take}
use mathlib.Core.List.{List, ◌∷◌, ◌++◌, Memᴰ}
use Rattle.rules.specs.Refusals.{Reply, answer}
use Rattle.rules.specs.Cycle.{at_rest, at_reclaim}
use Rattle.rules.specs.Runs.{Call, Allocate, Step, after, spent}
use Rattle.rules.specs.Tracking.{Beside}
use Rattle.rules.specs.Claims.{FreedBetween, left_in, scans_and_move, used_words, all_shares, SharesKept}
use Rattle.rules.specs.Answers.{Refused}
use Rattle.store.specs.CodeRuns.{Lent, viewed, CodeMade, Called}
use Rattle.directory_rules.specs.Table.{Given}
use Rattle.directory_rules.specs.Runs.{Item, call, allowed, calls_of, beside_items}
use Rattle.directory_rules.specs.Holding.{OwnReached}
use Rattle.directory.specs.CodeRuns.{CodeItems}

-- a run of the code with directory calls leaves what its store calls leave by the rules, one after another
unfoldable pub CodeItemsAreCalls : Type 0
CodeItemsAreCalls =
    (a e : Lent) (xs : List Item) (gs : List Given) → CodeItems a xs gs e → viewed e ≡ after (viewed a) (calls_of (viewed a) xs)

-- ---- the store's claims

-- no store call that follows such a run is refused with 4 or 12
unfoldable pub CodeItemsNoDamage : Type 0
CodeItemsNoDamage =
    (a e f : Lent) (xs : List Item) (gs : List Given) (c : Call) (r : Reply) → CodeMade a → CodeItems a xs gs e
    → Called e.control e.half0 e.half1 e.list c r f
    → (r ≢ answer (Refused 4)) × (r ≢ answer (Refused 12))

-- what the code holds after items from a, with the collector-free store and the places of the run beside it
abbrev pub beside_code : Lent → List Item → Lent → Beside
beside_code a xs e = record { store = viewed e; free = (beside_items (viewed a) xs).free; place = (beside_items (viewed a) xs).place }

-- b is what the code holds as a step leaves phase 0, e as a later one has come back to it
unfoldable pub CodeItemsFreed : Type 0
CodeItemsFreed =
    (a b e : Lent) (xs ys : List Item) (gs hs : List Given) → CodeMade a → CodeItems a xs gs b → CodeItems b (call Step ∷ ys) hs e
    → b.control.cursor.phase ≡ at_rest → e.control.cursor.phase ≡ at_rest
    → FreedBetween (beside_code a xs b) (beside_code a (xs ++ (call Step ∷ ys)) e) (left_in (beside_code a (xs ++ (call Step ∷ ys)) e))

unfoldable pub CodeItemsMarkingEnds : Type 0
CodeItemsMarkingEnds =
    (a e : Lent) (xs : List Item) (gs : List Given) → CodeMade a → CodeItems a xs gs e
    → spent 0 (viewed a) (calls_of (viewed a) xs) ≤ used_words (viewed e) + scans_and_move

-- b is what the code holds before a step that ends Reclaim, t after it, and e after the items ys: no allocation then answers 14
unfoldable pub CodeItemsShareAfterReclaim : Type 0
CodeItemsShareAfterReclaim =
    (a b t e f : Lent) (xs ys : List Item) (gs hs : List Given) (x y : Reply) (n k r p : ℕ)
    → CodeMade a → CodeItems a xs gs b → Called b.control b.half0 b.half1 b.list Step x t
    → b.control.cursor.phase ≡ at_reclaim → t.control.cursor.phase ≡ at_rest
    → used_words (viewed t) + all_shares t.control.sessions ≤ t.control.length0
    → CodeItems t ys hs e → SharesKept (viewed t) (calls_of (viewed t) ys)
    → ((i : ℕ) → (after (viewed t) (take i (calls_of (viewed t) ys))).phase ≢ at_reclaim)
    → Called e.control e.half0 e.half1 e.list (Allocate n k r p) y f → y ≢ answer (Refused 14)

-- ---- what a removal gives back

-- b is what the code holds when a collection begins, e when it has ended: a record that the directory reached once, and no longer in b, is
-- none of those that e holds
unfoldable pub CodeRemovedFreed : Type 0
CodeRemovedFreed =
    (a b e : Lent) (xs ys zs : List Item) (gs hs : List Given) → CodeMade a → CodeItems a (xs ++ ys) gs b → CodeItems b (call Step ∷ zs) hs e
    → allowed (xs ++ ys) ≡ true
    → (q : ℕ) → OwnReached (beside_items (viewed a) xs).free q → (OwnReached (beside_items (viewed a) (xs ++ ys)).free q → ⊥)
    → b.control.cursor.phase ≡ at_rest → e.control.cursor.phase ≡ at_rest
    → Memᴰ q (left_in (beside_code a ((xs ++ ys) ++ (call Step ∷ zs)) e)) → ⊥
