-- What the directory holds along a run, and that nobody else reaches what it has held.
use Prim.Native.Nat.{ℕ, ◌≤◌}
use mathlib.Core.Path.{◌≡◌, refl, ap, ◌∙◌}
use mathlib.Core.Logic.{◌≢◌, ◌⊎◌, inl, inr}
use mathlib.Core.Bool.{true}
use mathlib.Core.List.{List, [], ◌∷◌, ◌++◌}
use native.Mathlib.Omega.{arith}
use lib.ListN.{length}
use Rattle.rules.specs.Memory.{null}
use Rattle.rules.specs.Control.{Store}
use Rattle.rules.specs.Free.{Free}
use Rattle.rules.specs.Tracking.{Reached, by_register, by_global, by_field}
use Rattle.rules.specs.Claims.{Made, free_after}
use Rattle.rules.proofs.Ranges.{both}
use Rattle.rules.proofs.memory.Cases.{either, eq_or}
use Rattle.directory_rules.specs.Acts.{own_session, own_global}
use Rattle.directory_rules.specs.Runs.{Item, call, request, others, allowed, beside_items}
use Rattle.directory_rules.specs.StoreClaims.{ItemsFreed}
use Rattle.directory_rules.specs.Holding.{OwnReached, OneRecordEach, DirectoryAlone, RemovedFreed}
use Rattle.directory_rules.specs.Holding as own
use Rattle.directory_rules.proofs.chains.Core.{others_label, Apart}
use Rattle.directory_rules.proofs.chains.Holding.{place-own, reached-place, holds}
use Rattle.directory_rules.proofs.runs.StoreClaims.{calls_more, items_freed}
use Rattle.directory_rules.proofs.runs.Run.{items_state, state_later}

pub one_record_each : OneRecordEach
unfolding OneRecordEach
one_record_each s made xs e = let a = items_state made xs e in rw a.here.free (holds a.represents)

-- ---- nobody else reaches them

reached_some : {f : Free} {q : ℕ} → Reached f q → q ≢ null
reached_some (by_register n k some) = some
reached_some (by_global g some) = some
reached_some (by_field q i r some) = some

-- what is reached the directory reaches, or it isn't the directory's
reached_or : {f : Free} {lab : ℕ → ℕ} → Apart f lab → {q : ℕ} → Reached f q → OwnReached f q ⊎ (lab q ≡ others_label)
reached_or a (by_register n k some) = eq_or n own_session
    (λ e. inl (rw e (own.by_register k (rw e at some))))
    (λ d. inr (a.registers n k d).label)
reached_or a (by_global g some) = eq_or g own_global
    (λ e. inl (rw e (own.by_global (rw e at some))))
    (λ d. inr (a.globals g d).label)
reached_or a (by_field q i r some) = either (reached_or a r)
    (λ h. inl (own.by_field q i h some))
    (λ e. inr (a.fields q i (reached_some r) e).label)

-- ---- later in a run

allowed_both : (xs ys : List Item) → allowed (xs ++ ys) ≡ true → (allowed xs ≡ true) × (allowed ys ≡ true)
allowed_both [] ys e = (refl, e)
allowed_both (call c ∷ xs) ys e =
    let z = both (others c) (allowed (xs ++ ys)) e in
    let r = allowed_both xs ys z.1 in
    (rw (z.0, r.0), r.1)
allowed_both (request q ∷ xs) ys e = allowed_both xs ys e

-- a place that the directory has reached after xs, after ys more
pub record Held (s : Store) (xs ys : List Item) (q : ℕ) : Type 0 where
  pub free : Free
  pub is : (beside_items s (xs ++ ys)).free ≡ free
  pub alone : Reached free q → OwnReached free q
  pub within : q ≤ length free.records

held_later : {s : Store} → Made s → (xs ys : List Item) → allowed (xs ++ ys) ≡ true → (q : ℕ) → OwnReached (beside_items s xs).free q → Held s xs ys q
held_later {s} made xs ys e q h =
    let z = allowed_both xs ys e in
    let a = items_state made xs z.0 in
    let l = state_later made a ys z.1 in
    let ours = l.stays q (place-own a.represents.core (reached-place a.represents (rw a.here.free at h))) in
    let sound = l.state.represents.core.store in
    record {
      free = l.state.free;
      is = ap (free_after s) (calls_more s xs ys) ∙ l.state.here.free;
      alone = λ r. either (reached_or sound.apart r) (λ o. o) (λ d. absurd (ours d));
      within = (sound.own q ours).within;
    }

pub directory_alone : DirectoryAlone
unfolding DirectoryAlone
directory_alone s made xs ys e q h r =
    let k = held_later made xs ys e q h in
    rw k.is (k.alone (rw k.is at r))

pub removed_freed : RemovedFreed
unfolding RemovedFreed DirectoryAlone ItemsFreed
removed_freed s made xs ys zs e q h gone begins ends m =
    let k = held_later made xs ys e q h in
    either ((items_freed s made (xs ++ ys) zs begins ends).kept q m)
    (λ r. gone (directory_alone s made xs ys e q h r))
    (λ new. let i = k.within in let z = rw k.is at new in omega arith)
