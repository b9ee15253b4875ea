-- A row written into a longer one.
use Prim.Native.Nat.{ℕ, suc, ◌+◌, ◌≤◌}
use mathlib.Core.Path.{◌≡◌}
use mathlib.Core.List.{List, [], ◌∷◌, ◌++◌}
use native.Mathlib.Omega.{arith}
use lib.ListN.{length, set, take}
use lib.Seq.{sets, sets-eq}
use borrow.Rule.Slice.PartMut.{put_mid}
use Rattle.std.proofs.Common.{append_assoc}
use Rattle.std.proofs.lemmas.List.{drop-drop}

module _ {X : Type 0} where
  -- one row after another
  pub sets-append : (xs : List X) (n : ℕ) (ys zs : List X) → sets xs n (ys ++ zs) ≡ sets (sets xs n ys) (n + length ys) zs
  sets-append xs n [] zs = let e : n + 0 ≡ n = omega arith in rw e
  sets-append xs n (y ∷ ys) zs = let e : n + suc (length ys) ≡ suc n + length ys = omega arith in rw e (sets-append (set xs n y) (suc n) ys zs)

  -- as a part
  pub part_sets : (n m : ℕ) (xs ys : List X) → m ≡ length ys → n + length ys ≤ length xs → put_mid n m xs ys ≡ sets xs n ys
  part_sets n m xs ys z l = rw (z, sets-eq ys xs n l, drop-drop (length ys) n xs, append_assoc (take n xs) ys)
