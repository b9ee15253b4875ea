-- The bytes of arguments drawn one after another, put into a buffer.
use Prim.Native.Nat.{ℕ, ◌+◌, ◌≤◌, ◌<◌}
use mathlib.Core.Path.{◌≡◌, ◌∙◌}
use mathlib.Core.List.{List, ◌∷◌}
use native.Mathlib.Omega.{arith}
use native.Mathlib.Nat.{add-zero, add_assoc}
use lib.ListN.{length, get_or, drop, length-append}
use lib.Seq.{sets, length-sets}
use Rattle.std.proofs.lemmas.List.{drop_more, drop_all}
use Rattle.rules.proofs.memory.Sets.{sets-append}
use Rattle.workload.specs.Load.{xorshift32, argument, bytes_of}
use Rattle.workload.specs.Entries.{Room, arguments_into}
use Rattle.workload.specs.declared.entries.Class.{Class}

-- the first argument, and those behind it
module _ (c : Class) (cs : List Class) (x at : ℕ) (out : List ℕ) where
  abbrev bytes : List ℕ
  bytes = bytes_of c (argument c x)

  others-room : Room (c ∷ cs) x at out → Room cs (xorshift32 x) (at + length bytes) (sets out at bytes)
  others-room room = rw length-sets (omega (arith, rw length-append at room))

  others-into : arguments_into cs (xorshift32 x) (at + length bytes) (sets out at bytes) ≡ arguments_into (c ∷ cs) x at out
  unfolding arguments_into
  others-into = rw (sets-append, length-append, add_assoc)

-- of the arguments of some classes, those of the first i are in the buffer: the others have room behind them, and make up what goes in in all
pub record Drawing (cs : List Class) (x₀ at₀ : ℕ) (out₀ : List ℕ) (i x at : ℕ) (out : List ℕ) : Type 0 where
  pub room : Room (drop i cs) x at out
  pub same : arguments_into (drop i cs) x at out ≡ arguments_into cs x₀ at₀ out₀

module _ {cs : List Class} {x₀ at₀ : ℕ} {out₀ : List ℕ} {i x at : ℕ} {out : List ℕ} (d : Drawing cs x₀ at₀ out₀ i x at out) where
  -- the next one is put there
  pub one_drawn : (c : Class) → i < length cs → {next end : ℕ} {done : List ℕ} → next ≡ xorshift32 x
      → end ≡ at + length (bytes_of (get_or cs i c) (argument (get_or cs i c) x))
      → done ≡ sets out at (bytes_of (get_or cs i c) (argument (get_or cs i c) x))
      → Drawing cs x₀ at₀ out₀ (i + 1) next end done
  one_drawn c inside n e b =
      let first = get_or cs i c in
      let others = drop (i + 1) cs in
      let cut : drop i cs ≡ first ∷ others = drop_more cs i c inside in
      rw (n, e, b) (record {
        room = others-room first others x at out (rw cut at d.room);
        same = others-into first others x at out ∙ rw cut at d.same;
      })

  -- none is left
  pub all_drawn : length cs ≤ i → record { next = x; out = out; end = at } ≡ arguments_into cs x₀ at₀ out₀
  unfolding arguments_into
  all_drawn past = rw (drop_all i cs past, add-zero) at d.same
