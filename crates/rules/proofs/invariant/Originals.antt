-- Up to StackFlip a record of the other half is the replica of one of the current half, its original. Once Copy is over, the two
-- agree, and so its fields are the collector-free ones too.
use Prim.Native.Nat.{ℕ, ◌≤◌, ◌<◌}
use mathlib.Core.Path.{◌≡◌, sym, ◌∙◌}
use mathlib.Core.Logic.{◌≢◌}
use native.Mathlib.Omega.{arith}
use lib.ListN.{get_or}
use Rattle.rules.specs.Memory.{null, replica, refs, plains}
use Rattle.rules.specs.Control.{Store}
use Rattle.rules.specs.Cycle.{stage}
use Rattle.rules.specs.Phases.{other_half}
use Rattle.rules.specs.Free.{Free}
use Rattle.rules.proofs.memory.Encoding.{other_below_2, other_other}
use Rattle.rules.proofs.invariant.Stages.{st_copy, st_stack_flip}
use Rattle.rules.proofs.invariant.Words.{In, field, plain_of, fwd, rec_of}
use Rattle.rules.proofs.invariant.Groups.{Pair, over}
use Rattle.rules.proofs.invariant.Sim.{Sim}
use Rattle.rules.proofs.invariant.Laws.{cur_two, in_nonnull, fwd_place}
use Rattle.rules.proofs.invariant.Pairs.{pair_side, pair_shape}

-- the replica of a record of the other half is in the current one
pub pair_here : {K : ℕ → Type 0} {m : ℕ → ℕ} {s : Store} {f : Free} {v w : ℕ} → Sim K m s f → In s.memory (other_half s.current) v
    → Pair s.memory m v w → In s.memory s.current w
pair_here {s = s} h t p = rw (other_other s.current (cur_two h)) at (pair_side (other_below_2 s.current) t p)

module _ {K : ℕ → Type 0} {m : ℕ → ℕ} {s : Store} {f : Free} (h : Sim K m s f) (hi : stage s.phase ≤ st_stack_flip) {v : ℕ} (t : In s.memory (other_half s.current) v) where
  pub original : Pair s.memory m v (replica s.memory v)
  original = (h.pairs.home hi v t).1

  pub original_in : In s.memory s.current (replica s.memory v)
  original_in = pair_here h t original

  -- its replica is the record
  pub original_paired : replica s.memory (replica s.memory v) ≢ null
  original_paired z = in_nonnull t (sym original.back ∙ z)

  -- ---- fields, by the agreement of all pairs
  module _ (lo : st_copy < stage s.phase) where
    pub original_ref : (i : ℕ) → i < refs s.memory v → get_or (rec_of f.records (m v)).refs i null ≡ m (field s.memory v i)
    original_ref i l =
        let q = original_in in
        let b : i < refs s.memory (replica s.memory v) = rw (pair_shape h.identity t.start original).0 l in
        let a : field s.memory v i ≡ fwd s.memory (other_half s.current) (field s.memory (replica s.memory v) i) =
        rw original.back at (h.agreement.refs_agree (omega arith) hi _ i q original_paired b (over lo)) in
        rw (a, fwd_place h (h.values.ok _ i q b), ← original.same) (h.values.ref _ i q b)

    pub original_plain : (i : ℕ) → i < plains s.memory v → get_or (rec_of f.records (m v)).plains i 0 ≡ plain_of s.memory v i
    original_plain i l =
        let q = original_in in
        let b : i < plains s.memory (replica s.memory v) = rw (pair_shape h.identity t.start original).1 l in
        let a : plain_of s.memory v i ≡ plain_of s.memory (replica s.memory v) i =
        rw original.back at (h.agreement.plains_agree (omega arith) hi _ i q original_paired b (over lo)) in
        rw (a, ← original.same) (h.values.plain _ i q b)
