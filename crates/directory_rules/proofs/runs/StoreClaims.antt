-- A run with directory calls is a run of store calls, and the store's claims of such runs.
use mathlib.Core.Path.{◌≡◌, refl, ap, sym, ◌∙◌}
use mathlib.Core.List.{List, [], ◌∷◌, ◌++◌, append_assoc}
use Rattle.rules.specs.Control.{Store}
use Rattle.rules.specs.Runs.{Step, apply, after}
use Rattle.rules.specs.Tracking.{new_beside, beside}
use Rattle.rules.specs.Claims.{NoDamage, Freed, MarkingEnds, ShareAfterReclaim}
use Rattle.rules.proofs.runs.Runs.{after_more, beside-more}
use Rattle.rules.proofs.runs.Claims.{no_damage, freed}
use Rattle.rules.proofs.runs.MarkingEnds.{marking_ends}
use Rattle.rules.proofs.runs.Shares.{share-after-reclaim}
use Rattle.directory_rules.specs.Acts.{Act, stop, give, ask, call_of, perform, calls_made}
use Rattle.directory_rules.specs.Directory.{directory_call, program_on}
use Rattle.directory_rules.specs.Runs.{Item, call, request, after_item, after_items, calls_of, beside_items}
use Rattle.directory_rules.specs.StoreClaims.{ItemsAreCalls, ItemsNoDamage, ItemsFreed, ItemsMarkingEnds, ItemsShareAfterReclaim}

performed : {A : Type 0} (s : Store) (a : Act A) → (perform s a).store ≡ after s (calls_made s a)
performed s (stop n) = refl
performed s (give x) = refl
performed s (ask c f) = performed (apply s (call_of c)).store (f (apply s (call_of c)).reply)

pub items_are_calls : ItemsAreCalls
unfolding ItemsAreCalls directory_call
items_are_calls s [] = refl
items_are_calls s (call c ∷ xs) = items_are_calls (apply s c).store xs
items_are_calls s (request q ∷ xs) =
    items_are_calls (directory_call s q).store xs
    ∙ (ap (λ t. after t (calls_of (directory_call s q).store xs)) (performed s (program_on s q))
    ∙ sym (after_more s (calls_made s (program_on s q)) (calls_of (directory_call s q).store xs)))

-- ---- items after items

pub items_more : (s : Store) (xs ys : List Item) → after_items s (xs ++ ys) ≡ after_items (after_items s xs) ys
items_more s [] ys = refl
items_more s (x ∷ xs) ys = items_more (after_item s x) xs ys

pub calls_more : (s : Store) (xs ys : List Item) → calls_of s (xs ++ ys) ≡ calls_of s xs ++ calls_of (after_items s xs) ys
calls_more s [] ys = refl
calls_more s (call c ∷ xs) ys = ap (c ∷◌) (calls_more (apply s c).store xs ys)
calls_more s (request q ∷ xs) ys =
    ap (calls_made s (program_on s q) ++◌) (calls_more (directory_call s q).store xs ys)
    ∙ sym (append_assoc (calls_made s (program_on s q)) (calls_of (directory_call s q).store xs) (calls_of (after_items (directory_call s q).store xs) ys))

beside_items_lem : (s : Store) (xs ys : List Item) → beside_items s (xs ++ ys) ≡ beside (beside_items s xs) (calls_of (after_items s xs) ys)
beside_items_lem s xs ys = ap (beside (new_beside s)) (calls_more s xs ys) ∙ beside-more (new_beside s) (calls_of s xs) (calls_of (after_items s xs) ys)

-- ---- the claims

pub items_no_damage : ItemsNoDamage
unfolding ItemsNoDamage NoDamage ItemsAreCalls
items_no_damage s made xs c = rw (items_are_calls s xs) (no_damage s made (calls_of s xs) c)

pub items_freed : ItemsFreed
unfolding ItemsFreed Freed ItemsAreCalls
items_freed s made xs ys begins ends =
    let cs = calls_of s xs in
    let ds = calls_of (apply (after_items s xs) Step).store ys in
    let last : after_items s (xs ++ (call Step ∷ ys)) ≡ after (after s cs) (Step ∷ ds) =
    items_are_calls s (xs ++ (call Step ∷ ys)) ∙ ap (after s) (calls_more s xs (call Step ∷ ys)) ∙ after_more s cs (Step ∷ ds) in
    rw (beside_items_lem s xs (call Step ∷ ys))
    (freed s made cs ds (sym (ap (λ t. t.phase) (items_are_calls s xs)) ∙ begins) (sym (ap (λ t. t.phase) last) ∙ ends))

pub items_marking_ends : ItemsMarkingEnds
unfolding ItemsMarkingEnds MarkingEnds ItemsAreCalls
items_marking_ends s made xs = rw (items_are_calls s xs) (marking_ends s made (calls_of s xs))

pub items_share-after-reclaim : ItemsShareAfterReclaim
unfolding ItemsShareAfterReclaim ShareAfterReclaim ItemsAreCalls
items_share-after-reclaim s made xs ends fits ys kept away n k r p =
    let t = (apply (after_items s xs) Step).store in
    rw (items_are_calls t ys)
    (rw (← items_are_calls s xs) at (share-after-reclaim s made (calls_of s xs)) ends fits (calls_of t ys) kept away n k r p)
