-- A memory that has got new records: `New u` says that u is one of them, `Re u` that the replica word of the old record u changed.
use Prim.Native.Nat.{ℕ, ◌+◌, ◌≤◌, ◌<◌}
use mathlib.Core.Path.{◌≡◌, ◌∙◌}
use mathlib.Core.Logic.{◌≢◌, ◌⊎◌, inl, inr}
use native.Mathlib.Nat.{le_refl}
use native.Mathlib.Omega.{arith}
use lib.ListN.{length}
use Rattle.rules.specs.Memory.{Memory, half, frontier, half_of, word_of, header, shape_at, replica_at, word, colour, replica, birth_number, refs, plains, size, next_reference, colour_at, birth_at}
use Rattle.rules.proofs.memory.Cases.{eq_or, either}
use Rattle.rules.proofs.memory.Encoding.{half-below_2}
use Rattle.rules.proofs.memory.Records.{Start, Filled, refs-same, plains-same, size_same, size-least, size-fields, ref_inside, plain_inside}
use Rattle.rules.proofs.memory.Next.{next-above}
use Rattle.rules.proofs.memory.Walk.{Walk}
use Rattle.rules.proofs.memory.Put.{PutKept}
use Rattle.rules.proofs.memory.Append.{Appended}
use Rattle.rules.proofs.invariant.Words.{In, Ok, field, plain_of}
use Rattle.rules.proofs.invariant.Carried.{in_carried, ok_carried}

pub record Grown (M M' : Memory) (New Re : ℕ → Type 0) : Type 0 where
  pub to : {u : ℕ} → Start M u → Start M' u
  pub split : {u : ℕ} → Start M' u → Start M u ⊎ New u
  pub made : {u : ℕ} → New u → Start M' u
  -- old records keep their words, but for replica words
  pub same : {u : ℕ} → Start M u → (j : ℕ) → j < size M u → j ≢ replica_at → word M' u j ≡ word M u j
  pub same-replica : {u : ℕ} → Start M u → (replica M' u ≡ replica M u) ⊎ Re u
  -- new ones have fields of 0 and lie above the old frontier
  pub blank : {u : ℕ} → New u → (i : ℕ) → header + i < size M' u → word M' u (header + i) ≡ 0
  pub above : {u : ℕ} → New u → (h : ℕ) → half_of u ≡ h → frontier M h ≤ word_of u
  pub filled : Filled M'
  pub front : (h : ℕ) → h < 2 → frontier M h ≤ frontier M' h
  pub lengths : (h : ℕ) → length (half M' h) ≡ length (half M h)
  pub walks : {h k : ℕ} → h < 2 → Walk M h k → Walk M' h k

-- ---- what it gives
module _ {M M' : Memory} {New Re : ℕ → Type 0} (g : Grown M M' New Re) where
  grown-shape : {u : ℕ} → Start M u → word M' u shape_at ≡ word M u shape_at
  grown-shape {u} t = g.same t shape_at (omega (arith, size-least M u)) (omega arith)

  pub grown-refs : {u : ℕ} → Start M u → refs M' u ≡ refs M u
  grown-refs {u} t = refs-same M M' u (grown-shape t)

  pub grown-plains : {u : ℕ} → Start M u → plains M' u ≡ plains M u
  grown-plains {u} t = plains-same M M' u (grown-shape t)

  pub grown-size : {u : ℕ} → Start M u → size M' u ≡ size M u
  grown-size {u} t = size_same M M' u (grown-shape t)

  pub grown-colour : {u : ℕ} → Start M u → colour M' u ≡ colour M u
  unfolding colour
  grown-colour {u} t = g.same t colour_at (omega (arith, size-least M u)) (omega arith)

  pub grown-birth : {u : ℕ} → Start M u → birth_number M' u ≡ birth_number M u
  unfolding birth_number
  grown-birth {u} t = g.same t birth_at (omega (arith, size-least M u)) (omega arith)

  pub grown-field : {u : ℕ} → Start M u → (i : ℕ) → i < refs M u → field M' u i ≡ field M u i
  grown-field {u} t i l = g.same t (header + i) (ref_inside M u i l) (omega arith)

  pub grown_plain : {u : ℕ} → Start M u → (i : ℕ) → i < plains M u → plain_of M' u i ≡ plain_of M u i
  grown_plain {u} t i l = rw (grown-refs t) (g.same t (header + refs M u + i) (plain_inside M u i l) (omega arith))

  pub new_ref : {u : ℕ} → New u → (i : ℕ) → i < refs M' u → field M' u i ≡ 0
  new_ref {u} n i l = g.blank n i (ref_inside M' u i l)

  pub new_plain : {u : ℕ} → New u → (i : ℕ) → i < plains M' u → plain_of M' u i ≡ 0
  new_plain {u} n i l =
      let e : header + refs M' u + i ≡ header + (refs M' u + i) = omega arith in
      rw e (g.blank n (refs M' u + i) (omega (arith, size-fields M' u)))

  pub grown_ok : {u : ℕ} → Ok M u → Ok M' u
  grown_ok o = ok_carried g.to o

  pub grown_in : {h u : ℕ} → In M h u → In M' h u
  grown_in t = in_carried g.to t

  -- a record is old or new
  pub old_or_new : {h u : ℕ} → In M' h u → {C : Type 0} → (In M h u → C) → (New u → half_of u ≡ h → C) → C
  old_or_new t f k = either (g.split t.start) (λ o. f (record { start = o; side = t.side })) (λ n. k n t.side)

-- ---- one record at a frontier
pub append-grown : {M M' : Memory} {h w c v b n : ℕ} → Appended M M' h w c v b n → Grown M M' (λ u. u ≡ next_reference M h) (λ u. ⊥)
unfolding replica
append-grown {M} {M'} {h} {n = n} a = record {
  to = a.to;
  split = a.split;
  made = λ e. rw e a.made;
  same = λ t j l d. a.same t j l;
  same-replica = λ {u} t. inl (a.same t replica_at (omega (arith, size-least M u)));
  blank = λ e i l. rw e (a.new_field i (let z = a.new_size in let q : header + i < size M' (next_reference M h) = rw (← e) l in omega arith));
  above = next-above M h a.before.side;
  filled = a.filled;
  front = λ g l. eq_or g h (λ e. rw (e, a.front) (omega arith)) (λ d. rw (a.front_other g l d) (le_refl _));
  lengths = a.lengths;
  walks = a.walk;
}

-- ---- the replica word of one record
pub replica-grown : {M M' : Memory} {v x : ℕ} → PutKept M M' v replica_at x → Grown M M' (λ u. ⊥) (λ u. u ≡ v)
unfolding replica
replica-grown {M} {M'} {v} {x} k = record {
  to = k.to;
  split = λ t. inl (k.back t);
  made = λ n. absurd n;
  same = λ t j l d. k.same t j l (inr d);
  same-replica = λ {u} t. eq_or u v (λ e. inr e) (λ d. inl (k.same t replica_at (omega (arith, size-least M u)) (inl d)));
  blank = λ n i l. absurd n;
  above = λ n h side. absurd n;
  filled = k.filled;
  front = λ h l. rw (k.front h) (le_refl _);
  lengths = k.lengths;
  walks = k.walk;
}

-- ---- one growth after another
pub both_grown : {M M₁ M₂ : Memory} {N N' R R' : ℕ → Type 0} → Grown M M₁ N R → Grown M₁ M₂ N' R'
    → Grown M M₂ (λ u. N u ⊎ N' u) (λ u. R u ⊎ R' u)
both_grown {M} {M₁} {M₂} {N} {N'} {R} {R'} g k = record {
  to = λ t. k.to (g.to t);
  split = λ {u} t. either (k.split t) (λ t₁. either (g.split t₁) (λ o. inl o) (λ n. inr (inl n))) (λ n. inr (inr n));
  made = λ n. either n (λ n₁. k.to (g.made n₁)) (λ n₂. k.made n₂);
  same = λ {u} t j l d. k.same (g.to t) j (rw (grown-size g t) l) d ∙ g.same t j l d;
  same-replica = λ t. either (k.same-replica (g.to t)) (λ e. either (g.same-replica t) (λ e₁. inl (e ∙ e₁)) (λ r. inr (inl r))) (λ r. inr (inr r));
  blank = λ {u} n i l. either n
      (λ n₁. let q : header + i < size M₁ u = rw (grown-size k (g.made n₁)) at l in k.same (g.made n₁) (header + i) q (omega arith) ∙ g.blank n₁ i q)
      (λ n₂. k.blank n₂ i l);
  above = λ {u} n h side. either n (λ n₁. g.above n₁ h side)
      (λ n₂. let q : h < 2 = rw (← side) (half-below_2 u) in omega (arith, g.front h q, k.above n₂ h side));
  filled = k.filled;
  front = λ h l. omega (arith, g.front h l, k.front h l);
  lengths = λ h. k.lengths h ∙ g.lengths h;
  walks = λ l t. k.walks l (g.walks l t);
}
