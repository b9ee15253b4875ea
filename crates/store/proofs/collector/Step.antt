-- The collector step: the unit of work by the number of the phase, and the control record test.
use Prim.Native.Nat.{ℕ, zero, suc}
use mathlib.Core.Path.{◌≡◌, ◌∙◌, refl, sym, ap}
use mathlib.Core.Bool.{true}
use lib.ListN.{get_or}
use Rattle.rules.specs.Cycle.{at_allocate, at_copy, at_heap_mark, at_reclaim, at_rest, at_root_flip, at_root_mark, at_stack_flip}
use Rattle.rules.specs.Refusals.{Tested, refused, passed, ◌>>=◌, Outcome, answered, settle}
use Rattle.rules.specs.Control.{Store, in_range}
use Rattle.rules.specs.Collector.{handshake, units, step}
use Rattle.rules.specs.Answers as answers
use Rattle.store.specs.Steps.{stepped}

-- a phase that is none of the others only waits
pub waits : (n : ℕ) → (n ≡ at_rest → ⊥) → (n ≡ at_root_mark → ⊥) → (n ≡ at_heap_mark → ⊥) → (n ≡ at_allocate → ⊥) → (n ≡ at_copy → ⊥) → (n ≡ at_root_flip → ⊥) → (n ≡ at_stack_flip → ⊥) → (n ≡ at_reclaim → ⊥)
    → get_or units n handshake ≡ handshake
waits zero a b c d e f g h = absurd (a refl)
waits (suc zero) a b c d e f g h = refl
waits (suc (suc zero)) a b c d e f g h = refl
waits (suc (suc (suc zero))) a b c d e f g h = absurd (b refl)
waits (suc (suc (suc (suc zero)))) a b c d e f g h = absurd (c refl)
waits (suc (suc (suc (suc (suc zero))))) a b c d e f g h = absurd (d refl)
waits (suc (suc (suc (suc (suc (suc zero)))))) a b c d e f g h = refl
waits (suc (suc (suc (suc (suc (suc (suc zero))))))) a b c d e f g h = absurd (e refl)
waits (suc (suc (suc (suc (suc (suc (suc (suc zero)))))))) a b c d e f g h = refl
waits (suc (suc (suc (suc (suc (suc (suc (suc (suc zero))))))))) a b c d e f g h = refl
waits (suc (suc (suc (suc (suc (suc (suc (suc (suc (suc zero)))))))))) a b c d e f g h = absurd (f refl)
waits (suc (suc (suc (suc (suc (suc (suc (suc (suc (suc (suc zero))))))))))) a b c d e f g h = absurd (g refl)
waits (suc (suc (suc (suc (suc (suc (suc (suc (suc (suc (suc (suc zero)))))))))))) a b c d e f g h = absurd (h refl)
waits (suc (suc (suc (suc (suc (suc (suc (suc (suc (suc (suc (suc (suc n))))))))))))) a b c d e f g h = refl

-- the unit of phase n
pub by_phase : {o : Outcome Store} (s : Store) (n : ℕ) → s.phase ≡ n → o ≡ stepped s (get_or units n handshake s) → o ≡ stepped s (get_or units s.phase handshake s)
by_phase s n p w = w ∙ sym (ap (λ (k : ℕ). stepped s (get_or units k handshake s)) p)

-- a unit that only waits
pub by_waiting : {o : Outcome Store} (s : Store) → get_or units s.phase handshake ≡ handshake → o ≡ stepped s (handshake s) → o ≡ stepped s (get_or units s.phase handshake s)
by_waiting s p w = w ∙ sym (ap (λ (f : Store → Tested Store). stepped s (f s)) p)

-- ---- the step

settled : (s : Store) (t : Tested Store) → settle s (t >>= λ (u : Store). answered u (answers.Phase u.phase)) ≡ stepped s t
settled s (refused n) = refl
settled s (passed u) = refl

pub step_done : {o : Outcome Store} (s : Store) → true ≡ in_range s → o ≡ stepped s (get_or units s.phase handshake s) → o ≡ settle s (step s)
unfolding step
step_done s e w = rw (← e, settled s (get_or units s.phase handshake s)) w
