-- The claims of runs with directory calls, of the code: what the code holds is what the rules give.
use Prim.Native.Nat.{ℕ, ◌+◌, ◌≤◌}
use mathlib.Core.Path.{◌≡◌, sym, ap, subst, ◌∙◌}
use mathlib.Core.Logic.{◌≢◌}
use mathlib.Core.List.{List, ◌∷◌, ◌++◌, Memᴰ}
use lib.ListN.{take}
use Rattle.rules.specs.Refusals.{answer}
use Rattle.rules.specs.Control.{Store}
use Rattle.rules.specs.Cycle.{at_rest, at_reclaim}
use Rattle.rules.specs.Runs.{Allocate, Step, apply, after, spent}
use Rattle.rules.specs.Tracking.{Beside, new_beside}
use Rattle.rules.specs.Claims.{left_in, scans_and_move, EndsReclaim, used_words, all_shares, SharesKept}
use Rattle.rules.specs.Answers.{Refused}
use Rattle.rules.proofs.runs.Runs.{beside-store}
use Rattle.store.specs.CodeRuns.{Lent, viewed}
use Rattle.store.proofs.runs.Runs.{called_applies, code_made}
use Rattle.store.proofs.runs.Claims.{freed_same}
use Rattle.directory_rules.specs.Table.{Given}
use Rattle.directory_rules.specs.Runs.{Item, call, after_items, calls_of, beside_items}
use Rattle.directory_rules.specs.StoreClaims.{ItemsAreCalls, ItemsNoDamage, ItemsFreed, ItemsMarkingEnds, ItemsShareAfterReclaim}
use Rattle.directory_rules.specs.Holding.{RemovedFreed}
use Rattle.directory_rules.proofs.runs.StoreClaims.{items_more, items_are_calls, items_no_damage, items_freed, items_marking_ends, items_share-after-reclaim}
use Rattle.directory_rules.proofs.runs.Holding.{removed_freed}
use Rattle.directory.specs.CodeRuns.{CodeItems}
use Rattle.directory.specs.CodeClaims.{CodeItemsAreCalls, CodeItemsNoDamage, beside_code, CodeItemsFreed, CodeItemsMarkingEnds, CodeItemsShareAfterReclaim, CodeRemovedFreed}
use Rattle.directory.proofs.runs.Runs.{items_run}

pub code_items_are_calls : CodeItemsAreCalls
unfolding CodeItemsAreCalls ItemsAreCalls
code_items_are_calls a e xs gs calls = (items_run calls).1 ∙ items_are_calls (viewed a) xs

pub code_items_no_damage : CodeItemsNoDamage
unfolding CodeItemsNoDamage ItemsNoDamage
code_items_no_damage a e f xs gs c r made calls called =
    let q = ap (λ o. o.reply) (called_applies called) ∙ ap (λ s. (apply s c).reply) (items_run calls).1 in
    rw q (items_no_damage (viewed a) (code_made made) xs c)

-- ---- a collection

-- what the code holds is the store of the run beside
beside_code_lem : (a e : Lent) (xs : List Item) → viewed e ≡ after_items (viewed a) xs → beside_items (viewed a) xs ≡ beside_code a xs e
unfolding ItemsAreCalls
beside_code_lem a e xs at =
    let b = beside_items (viewed a) xs in
    ap (λ s. record { store = s; free = b.free; place = b.place })
    (beside-store (new_beside (viewed a)) (calls_of (viewed a) xs) ∙ sym (items_are_calls (viewed a) xs) ∙ sym at)

-- where it began and where it ended
module _ {a b e : Lent} {xs ys : List Item} {gs hs : List Given} (calls : CodeItems a xs gs b) (calls' : CodeItems b (call Step ∷ ys) hs e) where
  abbrev all : List Item
  all = xs ++ (call Step ∷ ys)

  ends_at : viewed e ≡ after_items (viewed a) all
  ends_at = (items_run calls').1 ∙ ap (λ s. after_items s (call Step ∷ ys)) (items_run calls).1 ∙ sym (items_more (viewed a) xs (call Step ∷ ys))

  begins_so : b.control.cursor.phase ≡ at_rest → (after_items (viewed a) xs).phase ≡ at_rest
  begins_so z = sym (ap (λ s. s.phase) (items_run calls).1) ∙ z

  ends_so : e.control.cursor.phase ≡ at_rest → (after_items (viewed a) all).phase ≡ at_rest
  ends_so z = sym (ap (λ s. s.phase) ends_at) ∙ z

pub code_items_freed : CodeItemsFreed
unfolding CodeItemsFreed ItemsFreed
code_items_freed a b e xs ys gs hs made calls calls' begins ends =
    freed_same (beside_code_lem a b xs (items_run calls).1) (beside_code_lem a e (xs ++ (call Step ∷ ys)) (ends_at calls calls'))
    (items_freed (viewed a) (code_made made) xs ys (begins_so calls calls' begins) (ends_so calls calls' ends))

pub code_removed_freed : CodeRemovedFreed
unfolding CodeRemovedFreed RemovedFreed
code_removed_freed a b e xs ys zs gs hs made calls calls' all q held gone begins ends m =
    removed_freed (viewed a) (code_made made) xs ys zs all q held gone (begins_so calls calls' begins) (ends_so calls calls' ends)
    (subst (λ (z : Beside). Memᴰ q (left_in z)) (sym (beside_code_lem a e ((xs ++ ys) ++ (call Step ∷ zs)) (ends_at calls calls'))) m)

-- ---- marking and shares

pub code_items_marking_ends : CodeItemsMarkingEnds
unfolding CodeItemsMarkingEnds ItemsMarkingEnds
code_items_marking_ends a e xs gs made calls =
    subst (λ (s : Store). spent 0 (viewed a) (calls_of (viewed a) xs) ≤ used_words s + scans_and_move) (sym (items_run calls).1)
    (items_marking_ends (viewed a) (code_made made) xs)

-- what the rules say of the store t just after a step that ended Reclaim
abbrev Roomy : Store → Type 0
Roomy t =
    used_words t + all_shares t.sessions ≤ t.lengths.half0
    → (ys : List Item) → SharesKept t (calls_of t ys) → ((i : ℕ) → (after t (take i (calls_of t ys))).phase ≢ at_reclaim)
    → (n k r p : ℕ) → (apply (after_items t ys) (Allocate n k r p)).reply ≢ answer (Refused 14)

pub code_items_share-after-reclaim : CodeItemsShareAfterReclaim
unfolding CodeItemsShareAfterReclaim ItemsShareAfterReclaim
code_items_share-after-reclaim a b t e f xs ys gs hs x y n k r p made calls step begins ends fits calls' kept away called =
    let from : viewed b ≡ after_items (viewed a) xs = (items_run calls).1 in
    let to : (apply (after_items (viewed a) xs) Step).store ≡ viewed t =
    ap (λ s. (apply s Step).store) (sym from) ∙ sym (ap (λ o. o.store) (called_applies step)) in
    let ended : EndsReclaim (after_items (viewed a) xs) = (sym (ap (λ s. s.phase) from) ∙ begins, ap (λ s. s.phase) to ∙ ends) in
    let room : Roomy (viewed t) = subst Roomy to (items_share-after-reclaim (viewed a) (code_made made) xs ended) in
    let q : y ≡ (apply (after_items (viewed t) ys) (Allocate n k r p)).reply =
    ap (λ o. o.reply) (called_applies called) ∙ ap (λ s. (apply s (Allocate n k r p)).reply) (items_run calls').1 in
    rw q (room fits ys kept away n k r p)
