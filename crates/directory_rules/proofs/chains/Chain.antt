-- A chain: the records from a slot on, each naming the next in its first reference field, down to null. Every record has
-- a label, which says whose it is; those of a chain have the chain's own.
use Prim.Native.Nat.{ℕ}
use mathlib.Core.Path.{◌≡◌}
use mathlib.Core.Logic.{◌≢◌}
use mathlib.Core.List.{List, [], ◌∷◌}
use Rattle.rules.specs.Memory.{null}
use Rattle.rules.specs.Free.{Free}
use Rattle.directory_rules.specs.Directory.{next_field}
use Rattle.directory_rules.proofs.free.Slots.{Slot, field, held}

pub data Chain (f : Free) (lab : ℕ → ℕ) (l : ℕ) : Slot → List ℕ → Type 0 where
  ends : {sl : Slot} → held f sl ≡ null → Chain f lab l sl []
  goes : {sl : Slot} {q : ℕ} {qs : List ℕ} → held f sl ≡ q → q ≢ null → lab q ≡ l
      → Chain f lab l (field q next_field) qs → Chain f lab l sl (q ∷ qs)
