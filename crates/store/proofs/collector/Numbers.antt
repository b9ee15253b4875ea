-- The collector's numbers: what test 4 gives of them, and what the code lends of the halves by them.
use Prim.Native.Nat.{ℕ, ◌≤◌}
use mathlib.Core.Path.{◌≡◌, ◌∙◌, sym, ap, refl}
use mathlib.Core.List.{List, []}
use native.Mathlib.Omega.{arith}
use lib.ListN.{length, replicate, length-replicate}
use Rattle.std.specs.Prelude.{Result, Ok, Err}
use Rattle.std.specs.Result.{IsErr}
use Rattle.rules.specs.Refusals.{answer}
use Rattle.rules.specs.Answers.{Refused}
use Rattle.rules.specs.Memory.{Memory}
use Rattle.rules.specs.Control.{Store, new_store}
use Rattle.rules.specs.Phases.{fromspace, tospace}
use Rattle.rules.specs.Barriers.{Heap, heap_of, to}
use Rattle.rules.specs.declared.Damage.{Damage}
use Rattle.rules.proofs.Ranges.{InRange, place-small, fronts}
use Rattle.heap.specs.View.{memory}
use Rattle.store.specs.View.{view, lengths}
use Rattle.store.specs.Work.{worked}
use Rattle.store.specs.Cursors.{having, Ready}
use Rattle.store.specs.declared.Cursor.{Cursor}
use Rattle.store.specs.declared.Control.{Control}
use Rattle.store.specs.declared.work.Next.{Next}

pub ready : {h0 h1 l : List ℕ} (c : Control) → InRange (view c h0 h1 l) → Ready c.cursor h0 h1
ready c k =
    let b = fronts k in
    record {
      half = k.half;
      low = b.0;
      high = b.1;
      phases = k.phases;
      places = place-small k;
      fields = k.fields;
      equal = omega arith;
      most = omega arith;
    }

pub ends : {h0 h1 l : List ℕ} (c : Control) → InRange (view c h0 h1 l) → c.cursor.tail ≤ length l
ends c k = omega arith

-- a store, where any will do
abbrev pub some : Store
some = new_store (lengths 0 0 0) [] [] []

-- a phase that hands on damage
pub damaged : (s : Store) (x : Result Next Damage) → IsErr x → worked s x ≡ record { store = s; reply = answer (Refused 12) }
damaged s (Ok n) e = cc
damaged s (Err d) e = refl

-- what is read of the lent halves and tospace is what the rules read, over any list
module _ {z : Heap} {n : ℕ} (c : Cursor) (h0 h1 : List ℕ) (f : (s : Store) (l : List ℕ) → n ≡ length l → z ≡ heap_of (having s c h0 h1 l)) where
  lent : (s : Store) → z ≡ heap_of (having s c h0 h1 (replicate n 0))
  lent s = f s (replicate n 0) (sym (length-replicate n 0))

  pub by_lent : {A : Type 0} {t : A} (g : Memory → ℕ → A) (s : Store) (l : List ℕ) → t ≡ g z.memory (to z)
      → g (memory h0 h1 c.frontier0 c.frontier1) (tospace (having s c h0 h1 l)) ≡ t
  unfolding tospace fromspace
  by_lent g s l e = sym (e ∙ ap (λ (y : Heap). g y.memory (to y)) (lent s))
