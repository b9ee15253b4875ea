-- Grey-protected records: white ones that HeapMark has still to come to, by way of the grey list.
use Prim.Native.Nat.{ℕ, ◌≤◌, ◌<◌}
use mathlib.Core.Path.{◌≡◌, ◌∙◌}
use mathlib.Core.Logic.{◌≢◌, ◌⊎◌}
use mathlib.Core.List.{List}
use native.Mathlib.Omega.{arith}
use lib.ListN.{get_or}
use Rattle.rules.specs.Memory.{Memory, null, half_of, white, colour, refs}
use Rattle.rules.specs.Control.{Store}
use Rattle.rules.proofs.memory.Cases.{either}
use Rattle.rules.proofs.memory.Records.{start_nonnull}
use Rattle.rules.proofs.invariant.Words.{In, Ok, ok_null, ok_start, Clean, field}

-- how far HeapMark has come: the grey list with its place and end, and the walk field
pub record Scan : Type 0 where
  pub words : List ℕ
  pub head : ℕ
  pub tail : ℕ
  pub wf : ℕ

abbrev pub scan : List ℕ → ℕ → ℕ → ℕ → Scan
scan ws head tail wf = record { words = ws; head = head; tail = tail; wf = wf }

abbrev pub scan_of : Store → Scan
scan_of s = scan s.list.words s.list.head s.list.tail s.walk.field

-- entry number n
abbrev pub entry_of : Scan → ℕ → ℕ
entry_of z n = get_or z.words n null

-- field i of entry n is still to be passed
pub record ToPass (M : Memory) (z : Scan) (n i : ℕ) : Type 0 where
  pub from : z.head ≤ n
  pub below : n < z.tail
  pub within : i < refs M (entry_of z n)
  pub left : n ≡ z.head → z.wf ≤ i

-- such a field names it, or a field of a white record that is protected itself
pub data Protected (M : Memory) (cur : ℕ) (z : Scan) : ℕ → Type 0 where
  by_entry : (n i : ℕ) → ToPass M z n i → Protected M cur z (field M (entry_of z n) i)
  by_white : (v i : ℕ) → Protected M cur z v → In M cur v → colour M v ≡ white → i < refs M v → Protected M cur z (field M v i)

-- v names no white record of the current half, or a protected one
abbrev pub Covered : Memory → ℕ → Scan → ℕ → Type 0
Covered M cur z v = v ≢ null → half_of v ≡ cur → colour M v ≡ white → Protected M cur z v

pub clean_covered : {M : Memory} {cur : ℕ} {z : Scan} {v : ℕ} → Clean M cur v → Covered M cur z v
clean_covered c n side e = absurd (c n side e)

-- the list done, nothing is protected
none_protected : {M : Memory} {cur : ℕ} {z : Scan} {v : ℕ} → z.tail ≤ z.head → ¬ Protected M cur z v
none_protected l (by_entry n i t) = omega (arith, t.from, t.below)
none_protected l (by_white v i p t c b) = none_protected l p

pub covered_clean : {M : Memory} {cur : ℕ} {z : Scan} {v : ℕ} → z.tail ≤ z.head → Covered M cur z v → Clean M cur v
covered_clean l c n side e = none_protected l (c n side e)

-- ---- another memory, list or walk field: what was protected still is, or isn't white any more

pub record Carries (M M' : Memory) (cur : ℕ) (z z' : Scan) : Type 0 where
  pub entry : (n i : ℕ) → ToPass M z n i → Covered M' cur z' (field M (entry_of z n) i)
  pub link : (v i : ℕ) → In M cur v → colour M v ≡ white → i < refs M v → Covered M' cur z' v → Covered M' cur z' (field M v i)
  -- what is white was white
  pub whites : (v : ℕ) → In M cur v → colour M' v ≡ white → colour M v ≡ white

module _ {M M' : Memory} {cur : ℕ} {z z' : Scan} (k : Carries M M' cur z z') where
  protected_carried : {v : ℕ} → Protected M cur z v → Covered M' cur z' v
  protected_carried (by_entry n i t) = k.entry n i t
  protected_carried (by_white v i p t c l) = k.link v i t c l (protected_carried p)

  pub covered_carried : {v : ℕ} → Ok M v → Covered M cur z v → Covered M' cur z' v
  covered_carried (ok_null e) c n side w = absurd (n e)
  covered_carried {v} (ok_start t) c n side w = protected_carried (c n side (k.whites v (record { start = t; side = side }) w)) n side w

-- ---- a word that such a field holds
module _ {M : Memory} {cur : ℕ} {z : Scan} where
  pub entry_covers : (n i : ℕ) {u : ℕ} → field M (entry_of z n) i ≡ u → ToPass M z n i → Covered M cur z u
  entry_covers n i e t = λ a b c. rw (← e) (by_entry n i t)

  pub white_covers : (v i : ℕ) {u : ℕ} → field M v i ≡ u → In M cur v → colour M v ≡ white → i < refs M v → Covered M cur z v → Covered M cur z u
  white_covers v i e t c l k = λ a b d. rw (← e) (by_white v i (k (start_nonnull t.start) t.side c) t c l)

-- where records and colours stay, and a field stays or held what is clean now
pub carries_kept : {M M' : Memory} {cur : ℕ} {z : Scan} → ((v : ℕ) → In M cur v → In M' cur v) → ((v : ℕ) → In M cur v → refs M' v ≡ refs M v)
    → ((v : ℕ) → In M cur v → colour M' v ≡ colour M v) → ((n : ℕ) → n < z.tail → In M cur (entry_of z n))
    → ((v i : ℕ) → In M cur v → i < refs M v → (field M' v i ≡ field M v i) ⊎ Clean M' cur (field M v i)) → Carries M M' cur z z
carries_kept {z = z} to shape tint listed same = record {
  entry = λ n i t. let o = listed n t.below in
      either (same (entry_of z n) i o t.within)
      (λ e. entry_covers n i e (record { from = t.from; below = t.below; within = rw (shape (entry_of z n) o) t.within; left = t.left }))
      clean_covered;
  link = λ v i o c l k. either (same v i o l)
      (λ e. white_covers v i e (to v o) (tint v o ∙ c) (rw (shape v o) l) k)
      clean_covered;
  whites = λ v o c. rw (tint v o) at c;
}
