-- The step that ends Reclaim, on any store: nothing is charged to a session after it.
use Prim.Native.Nat.{ℕ}
use mathlib.Core.Path.{◌≡◌, refl, sym, ap, ◌∙◌}
use native.Mathlib.Omega.{arith}
use lib.ListN.{get_or, get_or-map}
use Rattle.rules.specs.Refusals.{Tested, Outcome, settle}
use Rattle.rules.specs.Memory.{followed}
use Rattle.rules.specs.Control.{Store, in_range}
use Rattle.rules.specs.Cycle.{at_rest, at_reclaim}
use Rattle.rules.specs.Phases.{absent, session_at, with_charge, uncharged, without_charges}
use Rattle.rules.specs.Collector.{past_record, handshake, reclaim, units, step}
use Rattle.rules.proofs.relation.Rows.{Ends, refuses, passes, one_test, then_row, after_row, either_row}

uncharged_none : (s : Store) (n : ℕ) → (session_at (without_charges s) n).charge ≡ 0
unfolding without_charges uncharged session_at
uncharged_none s n = ap (λ x. x.charge) (get_or-map (λ x. with_charge x 0) s.sessions n absent)

-- any number
abbrev Refused : ℕ → Type 0
Refused m = Unit {0}

module _ (s : Store) (n : ℕ) (e : s.phase ≡ at_reclaim) where
  -- where the store t rests, nothing is charged to session n
  abbrev Cleared : Store → Type 0
  Cleared t = t.phase ≡ at_rest → (session_at t n).charge ≡ 0

  -- in Reclaim it doesn't rest
  going_on : (t : Store) → t.phase ≡ s.phase → Cleared t
  going_on t d z = absurd (omega (arith, sym e ∙ sym d ∙ z))

  cleared : (t : Store) → Cleared (without_charges t)
  cleared t z = uncharged_none t n

  unit_cleared : Ends Refused Cleared (reclaim s)
  unfolding reclaim past_record followed
  unit_cleared = search (passes, one_test, after_row, either_row, going_on, cleared)

  step-cleared : Ends Refused (λ o. Cleared o.store) (step s)
  unfolding step
  step-cleared = rw (ap (λ ph. get_or units ph handshake s) e) (after_row _ (one_test (in_range s) 4 tt) (λ u. then_row _ unit_cleared (λ t h. passes _ h)))

  pub reclaim_uncharges : (settle s (step s)).store.phase ≡ at_rest → (session_at (settle s (step s)).store n).charge ≡ 0
  reclaim_uncharges = of_step step-cleared
    where
      of_step : {t : Tested (Outcome Store)} → Ends Refused (λ o. Cleared o.store) t → Cleared (settle s t).store
      of_step (refuses m a) = going_on s refl
      of_step (passes o h) = h
