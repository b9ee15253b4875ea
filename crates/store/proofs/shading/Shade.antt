-- Shading as the code does it.
use Prim.Native.Nat.{ℕ, ◌+◌, ◌≤◌}
use mathlib.Core.Path.{◌≡◌, ap, refl}
use mathlib.Core.Bool.{cond}
use mathlib.Core.List.{List, []}
use native.Mathlib.Omega.{arith}
use native.Mathlib.Nat.{add-zero}
use lib.Dec.{eqb}
use lib.ListN.{set}
use borrow.Author.Tests.{eq-eqb, ne_eqb}
use Rattle.rules.specs.Memory.{Memory, put, colour_at, grey}
use Rattle.rules.specs.Control.{Store, with_memory, with_list, new_store}
use Rattle.rules.specs.Barriers.{shade}
use Rattle.rules.proofs.memory.Cases.{bool_or, chosen_below}
use Rattle.rules.proofs.Shaded.{shade_either}
use Rattle.store.specs.Marking.{ending}

pub shade-null : (s : Store) (v : ℕ) → v ≡ 0 → s ≡ shade s v
unfolding shade
shade-null s v z = rw (eq-eqb v 0 z)

pub shade_record : {N : Memory} {ws : List ℕ} (s : Store) (v : ℕ) → (v ≡ 0 → ⊥)
    → N ≡ put s.memory v colour_at grey → ws ≡ set s.list.words s.list.tail v
    → with_list (with_memory s N) ws s.list.head (s.list.tail + 1) ≡ shade s v
unfolding shade
shade_record s v n e d = rw (ne_eqb v 0 n, e, d)

pub shade-globals : (s : Store) (v : ℕ) → (shade s v).globals ≡ s.globals
shade-globals s v = shade_either (λ t. t.globals ≡ s.globals) s v refl refl

-- the list gets an entry where there is a record to shade, so one at most
module _ (s : Store) (v : ℕ) where
  pub shade-tail : (shade s v).list.tail ≡ s.list.tail + cond (eqb v 0) 0 1
  unfolding shade
  shade-tail = bool_or (eqb v 0) (λ t. rw (t, add-zero)) (λ f. rw f)

  shade-end : (shade s v).list.tail ≤ s.list.tail + 1
  shade-end = omega (arith, shade-tail, chosen_below (eqb v 0) 0 1 1 (omega arith) (omega arith))

-- so the list's end that the code hands out, by what it says of any store
pub end_after : (h0 h1 l k0 k1 m : List ℕ) (end n v : ℕ) → ((s : Store) → ending s k0 k1 m n ≡ shade (ending s h0 h1 l end) v) → n ≤ end + 1
end_after h0 h1 l k0 k1 m end n v f =
    let some = new_store (record { half0 = 0; half1 = 0; list = 0 }) [] [] [] in
    let e = ap (λ (s : Store). s.list.tail) (f some) in
    omega (arith, e, shade-end (ending some h0 h1 l end) v)
