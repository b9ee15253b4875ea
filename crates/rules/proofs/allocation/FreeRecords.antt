-- The collector-free records with a new one at the end.
use Prim.Native.Nat.{ℕ, zero, suc, ◌-◌}
use mathlib.Core.Path.{◌≡◌, refl}
use mathlib.Core.List.{List, [], ◌∷◌, ◌++◌}
use native.Mathlib.Nat.{le_refl}
use native.Mathlib.Omega.{arith}
use lib.ListN.{get_or, length, replicate, length-append, get_or-append}
use lib.Seq.{get_or-append_seam}
use Rattle.rules.specs.Memory.{null}
use Rattle.rules.specs.Free.{Free, Record, no_record}
use Rattle.rules.proofs.memory.Lists.{zeros}
use Rattle.rules.proofs.invariant.Words.{rec_of}
use Rattle.rules.proofs.allocation.Growth.{Longer}

-- the collector-free store with other records
abbrev pub with_records : Free → List Record → Free
with_records f rs = record { sessions = f.sessions; globals = f.globals; records = rs }

-- a record of r nulls and p zeros
abbrev pub blank_record : ℕ → ℕ → Record
blank_record r p = record { refs = replicate r null; plains = replicate p 0 }

-- its fields, of either kind, are 0, as those of no record
fields-end : (fields : Record → List ℕ) (rs : List Record) (x : Record) → ((i : ℕ) → get_or (fields x) i 0 ≡ get_or (fields no_record) i 0)
    → (k i : ℕ) → get_or (fields (get_or (rs ++ x ∷ []) k no_record)) i 0 ≡ get_or (fields (get_or rs k no_record)) i 0
fields-end fields [] x z zero i = z i
fields-end fields [] x z (suc k) i = refl
fields-end fields (y ∷ rs) x z zero i = refl
fields-end fields (y ∷ rs) x z (suc k) i = fields-end fields rs x z k i

pub longer_by : (rs : List Record) (r p : ℕ) → Longer rs (rs ++ blank_record r p ∷ [])
longer_by rs r p = record {
  more = omega (arith, length-append rs (blank_record r p ∷ []));
  old = λ k l b. get_or-append rs (blank_record r p ∷ []) no_record (k - 1) (omega arith);
  refs = λ k. fields-end (λ x. x.refs) rs (blank_record r p) (zeros r) (k - 1);
  plains = λ k. fields-end (λ x. x.plains) rs (blank_record r p) (zeros p) (k - 1);
}

pub longer_not : (rs : List Record) → Longer rs rs
longer_not rs = record { more = le_refl _; old = λ k l b. refl; refs = λ k i. refl; plains = λ k i. refl }

-- its place
pub new_place_lem : (rs : List Record) (x : Record) → rec_of (rs ++ x ∷ []) (suc (length rs)) ≡ x
new_place_lem rs x = let e : suc (length rs) - 1 ≡ length rs = omega arith in rw e (get_or-append_seam rs x [] no_record)

pub new_length : (rs : List Record) (x : Record) → suc (length rs) ≡ length (rs ++ x ∷ [])
new_length rs x = omega (arith, length-append rs (x ∷ []))
