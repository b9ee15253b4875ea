-- A count that ends is never followed by a refusal: taking reads the same records again. Counting changes register 0 alone, so
-- the first member comes there a second time.
use Prim.Native.Nat.{ℕ, zero, suc, ◌+◌, ◌-◌, ◌≤◌}
use mathlib.Core.Path.{◌≡◌, refl, sym, ap, ◌∙◌}
use mathlib.Core.List.{List, ◌∷◌}
use native.Mathlib.Omega.{arith}
use Rattle.std.specs.Prelude.{Option, Some, None}
use Rattle.rules.specs.Refusals.{Tested, refused, passed, Reply, answer, words, Outcome}
use Rattle.rules.specs.Control.{Store}
use Rattle.rules.specs.Calls.{load_plan}
use Rattle.rules.specs.Runs.{apply, Load}
use Rattle.rules.specs.Answers.{Refused, Done, Word, Same, Phase}
use Rattle.directory_rules.specs.Acts.{own_session, Act, give, ◌>>=◌, must, load, call_of, or_stop, Performed, perform, Found, ended, failed, word}
use Rattle.directory_rules.specs.Directory.{next_field, first_field, group_register, counting, taking, taking_first}
use Rattle.directory.specs.Parts.{standing, looking, none_after, ending_at, pass_on, passing, counting_members}
use Rattle.directory.proofs.acts.Sequence.{onward, after}
use Rattle.directory.proofs.acts.Looking.{looked_at, looks}
use Rattle.directory.proofs.acts.Counting.{on_counted, counting_step, counting_none}
use Rattle.directory.proofs.acts.Taking.{taken_then, taking_step}
use Rattle.directory.proofs.acts.Aside.{with0, load-refused, load-done, load_again, Aside, load_aside}

-- an act isn't refused
abbrev pub Passes : {A : Type 0} → Tested A → Type 0
Passes (refused n) = ⊥
Passes (passed a) = Unit {0}

-- ---- from the same store

-- nor with a word before those that it gives
passes_more : (s : Store) (a : Act (List ℕ)) (w : ℕ) → Passes (perform s a).result → Passes (perform s (a >>= λ xs. give (w ∷ xs))).result
passes_more s a w h = rw (after s a (λ xs. give (w ∷ xs))) (by (perform s a).result h)
  where
    by : (r : Tested (List ℕ)) → Passes r → Passes (onward (perform s a).store r (λ xs. give (w ∷ xs))).result
    by (refused n) f = f
    by (passed xs) f = tt

-- counting and taking pass the same records
counted_passes : (left c k j : ℕ) (s : Store) → (perform s (counting left c)).result ≡ passed k → c + j ≤ k → Passes (perform s (taking j)).result
counted_passes left c k zero s e h = tt
counted_passes zero c k (suc j) s e h =
    by (perform s (ending_at 0)).result (ap (λ (p : Performed Store ℕ). p.result) (sym (counting_none s 0 c refl ∙ after s (ending_at 0) (λ u. give c))) ∙ e)
  where
    by : (r : Tested (Unit {0})) → (onward (perform s (ending_at 0)).store r (λ u. give c)).result ≡ passed k → Passes (perform s (taking (suc j))).result
    by (refused n) q = cc
    by (passed u) q = let z : c ≡ k = cc in absurd (omega arith)
counted_passes (suc left) c k (suc j) s e h =
    let l : suc left - 1 ≡ left = omega arith in
    let m : suc j - 1 ≡ j = omega arith in
    let on : Act ℕ = counting left (c + 1) in
    let counted : perform s (counting (suc left) c) ≡ onward (perform s passing).store (perform s passing).result (on_counted c on) =
    (rw l at (counting_step s (suc left) c (omega arith))) ∙ after s passing (on_counted c on) in
    let took : perform s (taking (suc j)) ≡ onward (perform s passing).store (perform s passing).result (taken_then (taking j)) =
    (rw m at (taking_step s (suc j) (omega arith))) ∙ after s passing (taken_then (taking j)) in
    rw took
    (by (perform s passing).store (perform s passing).result (sym (ap (λ (p : Performed Store ℕ). p.result) counted) ∙ e) (λ u q. counted_passes left (c + 1) k j u q (omega arith)))
  where
    by : (t : Store) (r : Tested (Option ℕ)) → (onward t r (on_counted c (counting left (c + 1)))).result ≡ passed k
        → ((u : Store) → (perform u (counting left (c + 1))).result ≡ passed k → Passes (perform u (taking j)).result)
        → Passes (onward t r (taken_then (taking j))).result
    by t (refused n) q on = cc
    by t (passed None) q on = let z : c ≡ k = cc in absurd (omega arith)
    by t (passed (Some w)) q on = passes_more t (taking j) w (on t q)

-- ---- register 0 alone

onward_aside : {A B : Type 0} (s : Store) (a : Act A) (k : A → Act B) (t : Store) → Aside s (perform t a).store → ((x : A) (u : Store) → Aside s u → Aside s (perform u (k x)).store)
    → Aside s (perform t (a >>= k)).store
onward_aside {A} {B} s a k t h f = rw (after t a k) (by (perform t a).store (perform t a).result h)
  where
    by : (u : Store) (r : Tested A) → Aside s u → Aside s (onward u r k).store
    by u (refused n) g = g
    by u (passed x) g = f x u g

load_next_aside : (s t : Store) → Aside s t → Aside s (perform t (must (load 0 0 next_field))).store
load_next_aside s t h = by (apply t (call_of (load 0 0 next_field))).store (apply t (call_of (load 0 0 next_field))).reply (load_aside s t 0 next_field h)
  where
    by : (u : Store) (r : Reply) → Aside s u → Aside s (perform u (or_stop r)).store
    by u (answer (Refused n)) g = g
    by u (answer Done) g = g
    by u (answer (Word w)) g = g
    by u (answer (Same b)) g = g
    by u (answer (Phase p)) g = g
    by u (words ws) g = g

looking_aside : (s t : Store) → Aside s t → Aside s (perform t (looking 0)).store
unfolding looking
looking_aside s t h = rw (looks t 0 standing) (by (looked_at t 0))
  where
    by : (f : Found) → Aside s (perform t (standing f)).store
    by ended = h
    by (failed n) = h
    by (word w) = h

passing_aside : (s t : Store) → Aside s t → Aside s (perform t passing).store
unfolding passing
passing_aside s t h = onward_aside s (looking 0) pass_on t (looking_aside s t h) by
  where
    by : (x : Option ℕ) (u : Store) → Aside s u → Aside s (perform u (pass_on x)).store
    by None u g = g
    by (Some w) u g = onward_aside s (must (load 0 0 next_field)) (λ v. give (Some w)) u (load_next_aside s u g) (λ x v k. k)

counting_aside : (left c : ℕ) (s t : Store) → Aside s t → Aside s (perform t (counting left c)).store
unfolding ending_at
counting_aside zero c s t h =
    rw (counting_none t 0 c refl)
    (onward_aside s (ending_at 0) (λ u. give c) t (onward_aside s (looking 0) none_after t (looking_aside s t h) by) (λ x u g. g))
  where
    by : (x : Option ℕ) (u : Store) → Aside s u → Aside s (perform u (none_after x)).store
    by None u g = g
    by (Some w) u g = g
counting_aside (suc left) c s t h =
    let l : suc left - 1 ≡ left = omega arith in
    rw ((rw l at (counting_step t (suc left) c (omega arith))))
    (onward_aside s passing (on_counted c (counting left (c + 1))) t (passing_aside s t h) (by (λ u g. counting_aside left (c + 1) s u g)))
  where
    by : ((u : Store) → Aside s u → Aside s (perform u (counting left (c + 1))).store) → (x : Option ℕ) (u : Store) → Aside s u
        → Aside s (perform u (on_counted c (counting left (c + 1)) x)).store
    by on None u g = g
    by on (Some w) u g = on u g

-- ---- the members of a group

pub again : (s t : Store) (half k m : ℕ) → perform s (counting_members half) ≡ record { store = t; result = passed k } → m ≤ k → Passes (perform t (taking_first m)).result
unfolding counting_members
again s t half k zero e h = tt
again s t half k (suc m) e h = by (load_plan s own_session 0 group_register first_field) refl
  where
    first : (w : ℕ) → load_plan s own_session 0 group_register first_field ≡ passed w → perform (with0 s w) (counting half 0) ≡ record { store = t; result = passed k }
        → Passes (perform t (taking_first (suc m))).result
    first w f q =
        let a : Aside s t = rw (ap (λ (p : Performed Store ℕ). p.store) q) at (counting_aside half 0 s (with0 s w) (record { value = w; same = refl })) in
        let l : apply t (Load own_session 0 group_register first_field) ≡ record { store = with0 s w; reply = answer Done } =
        ap (λ (u : Store). apply u (Load own_session 0 group_register first_field)) a.same ∙ load_again s a.value w f in
        let g : Passes (perform (with0 s w) (taking (suc m))).result =
        counted_passes half 0 k (suc m) (with0 s w) (ap (λ (p : Performed Store ℕ). p.result) q) (omega arith) in
        rw (ap (λ (o : Outcome Store). (perform o.store (or_stop o.reply >>= λ x. taking (suc m))).result) l) g

    -- the count, by what the first load leaves
    counted_from : Outcome Store → Performed Store ℕ
    counted_from o = perform o.store (or_stop o.reply >>= λ x. counting half 0)

    by : (p : Tested ℕ) → load_plan s own_session 0 group_register first_field ≡ p → Passes (perform t (taking_first (suc m))).result
    by (refused n) f = let z : refused n ≡ passed k = ap (λ (p : Performed Store ℕ). p.result) (sym (ap counted_from (load-refused s n f)) ∙ e) in cc
    by (passed w) f = first w f (sym (ap counted_from (load-done s w f)) ∙ e)
