-- The table of the collector's rules: what holds of each of them on a store holds of the rule of any phase. Reclaim's is asked for in
-- Reclaim alone.
use Prim.Native.Nat.{ℕ, zero, suc}
use mathlib.Core.Path.{◌≡◌, refl, ap}
use mathlib.Core.List.{List, [], ◌∷◌, ◌++◌}
use lib.ListN.{get_or, length}
use Rattle.rules.specs.Refusals.{Tested}
use Rattle.rules.specs.Control.{Store}
use Rattle.rules.specs.Cycle.{at_reclaim}
use Rattle.rules.specs.Collector.{rest, handshake, root_mark, heap_mark, allocate_shells, copy, root_flip, stack_flip, reclaim, units}

module _ (P : Tested Store → Type 0) (s : Store) where
  data Each : List (Store → Tested Store) → Type 0 where
    none : Each []
    more : (u : Store → Tested Store) (us : List (Store → Tested Store)) → P (u s) → Each us → Each (u ∷ us)

  -- a list of rules, and one after it
  each_at : P (handshake s) → {us : List (Store → Tested Store)} → Each us → (u : Store → Tested Store) (ph : ℕ) → (ph ≡ length us → P (u s))
      → P (get_or (us ++ u ∷ []) ph handshake s)
  each_at h none u zero c = c refl
  each_at h none u (suc ph) c = h
  each_at h (more v us x xs) u zero c = x
  each_at h (more v us x xs) u (suc ph) c = each_at h xs u ph (λ e. c (ap suc e))

  -- the rules before Reclaim's
  abbrev earlier : List (Store → Tested Store)
  earlier =
      rest ∷ handshake ∷ handshake ∷ root_mark ∷ heap_mark ∷ allocate_shells ∷ handshake ∷ copy ∷ handshake ∷ handshake ∷ root_flip ∷ stack_flip ∷ []

  pub each_unit : P (rest s) → P (handshake s) → P (root_mark s) → P (heap_mark s) → P (allocate_shells s) → P (copy s) → P (root_flip s) → P (stack_flip s)
      → (ph : ℕ) → (ph ≡ at_reclaim → P (reclaim s)) → P (get_or units ph handshake s)
  each_unit a b c d e f g i = each_at b {us = earlier} (search (none, more, a, b, c, d, e, f, g, i) depth 14) reclaim
