-- A run of the code with directory calls is a run of the rules, so its answers are the table's.
use Prim.Native.Nat.{ℕ}
use mathlib.Core.Path.{◌≡◌, refl, ap, ap₂, ◌∙◌}
use mathlib.Core.List.{List, ◌∷◌}
use Rattle.rules.specs.Runs.{apply}
use Rattle.store.specs.View.{view}
use Rattle.store.specs.CodeRuns.{Lent, viewed}
use Rattle.store.specs.declared.Control.{Control}
use Rattle.store.proofs.runs.Runs.{called_applies, code_made}
use Rattle.directory_rules.specs.Table.{Request, Given}
use Rattle.directory_rules.specs.Directory.{directory_call}
use Rattle.directory_rules.specs.Runs.{Item, after_items, directory_run}
use Rattle.directory_rules.specs.Claims.{TableAnswers}
use Rattle.directory_rules.proofs.runs.Run.{table_answers}
use Rattle.directory.specs.CodeRuns.{Answered, by_open, by_add, by_remove, by_make_group, by_join, by_leave, by_list_members, CodeItems, ended, next-call, next-request, CodeItemsRun, CodeTableAnswers}

-- a directory call leaves what the rules give
pub answered_leaves : {control : Control} {h0 h1 list : List ℕ} {q : Request} {g : Given} {b : Lent}
    → Answered control h0 h1 list q g b → record { store = viewed b; given = g } ≡ directory_call (view control h0 h1 list) q
answered_leaves (by_open share r e) = e
answered_leaves (by_add person r h0' h1' list' e) = e
answered_leaves (by_remove person r h0' h1' list' e) = e
answered_leaves (by_make_group group r h0' h1' list' e) = e
answered_leaves (by_join person group r h0' h1' list' e) = e
answered_leaves (by_leave person group r h0' h1' list' e) = e
answered_leaves (by_list_members group out out' r e) = e

pub items_run : {a e : Lent} {xs : List Item} {gs : List Given}
    → CodeItems a xs gs e → (gs ≡ directory_run (viewed a) xs) × (viewed e ≡ after_items (viewed a) xs)
items_run ended = (refl, refl)
items_run (next-call {a} {b} {c = c} {xs = xs} called rest) =
    let ih = items_run rest in
    let s : viewed b ≡ (apply (viewed a) c).store = ap (λ o. o.store) (called_applies called) in
    (ih.0 ∙ ap (λ x. directory_run x xs) s, ih.1 ∙ ap (λ x. after_items x xs) s)
items_run (next-request {a} {b} {q = q} {g = g} {xs = xs} answered rest) =
    let ih = items_run rest in
    let k = answered_leaves answered in
    let s : viewed b ≡ (directory_call (viewed a) q).store = ap (λ o. o.store) k in
    let n : g ≡ (directory_call (viewed a) q).given = ap (λ o. o.given) k in
    (ap₂ (λ x ys. x ∷ ys) n (ih.0 ∙ ap (λ x. directory_run x xs) s), ih.1 ∙ ap (λ x. after_items x xs) s)

pub code_items_run : CodeItemsRun
unfolding CodeItemsRun
code_items_run a e xs gs calls = items_run calls

pub code_table_answers : CodeTableAnswers
unfolding CodeTableAnswers TableAnswers
code_table_answers a e xs gs made calls all = (items_run calls).0 ∙ table_answers (viewed a) (code_made made) xs all
