-- What a store writes by its level: the barrier's rules pass, with the words that Table 1 names.
use Prim.Native.Nat.{ℕ, ◌≤◌, ◌<◌}
use mathlib.Core.Path.{◌≡◌, sym, ◌∙◌}
use mathlib.Core.Logic.{◌≢◌}
use mathlib.Core.Bool.{Bool, true, false, cond}
use mathlib.Core.List.{List, []}
use native.Mathlib.Omega.{arith}
use lib.Dec.{eqb}
use lib.ListN.{get_or}
use borrow.Author.Tests.{eq-eqb, ne_eqb, le-leb, lt-leb, lt-ltb}
use Rattle.rules.specs.Refusals.{passed}
use Rattle.rules.specs.Memory.{Memory, null, frontier, put, half_of, in_half, replica, refs, copy_of, other_copy}
use Rattle.rules.specs.Phases.{other_half}
use Rattle.rules.specs.Barriers.{Heap, to, shades_at, shades_old_at, copies_at, barrier_shades, replica_for, own_word, replica_word, store_writes, put_both}
use Rattle.rules.proofs.Ranges.{together}
use Rattle.rules.proofs.memory.Encoding.{other_differs}
use Rattle.rules.proofs.memory.Records.{Start, start_nonnull}
use Rattle.rules.proofs.memory.Put.{frontier-put}
use Rattle.rules.proofs.invariant.Words.{In, Ok, ok_null, ok_start, field, fwd}
use Rattle.rules.proofs.invariant.Laws.{in_or, in_half_yes, in_half_no, in_half-null, fwd_null, fwd_there, fwd_copy}
use Rattle.rules.proofs.invariant.Following.{Followable, followed_start, other_copy-passed, forward-passed}

-- ---- shading by level

pub shades_low : (l : ℕ) → 1 ≤ l → l ≤ 3 → shades_at l ≡ true
unfolding shades_at
shades_low l a b = rw (le-leb 1 l a, le-leb l 3 b)

pub shades_old : (l : ℕ) → 2 ≤ l → l ≤ 3 → shades_old_at l ≡ true
unfolding shades_old_at
shades_old l a b = together (le-leb _ l (omega arith)) (le-leb l _ (omega arith))

shades_high : (l : ℕ) → 4 ≤ l → shades_at l ≡ false
unfolding shades_at
shades_high l a = rw (le-leb 1 l (omega arith), lt-leb l 3 (omega arith))

-- ---- the replica that is written

module _ (M : Memory) (count : Memory → ℕ → ℕ) (l v i : ℕ) where
  pub replica-low : l ≤ 3 → replica_for M count l v i ≡ passed null
  unfolding replica_for copies_at
  replica-low b = rw (lt-leb 4 l (omega arith))

  pub replica_none : 4 ≤ l → replica M v ≡ null → replica_for M count l v i ≡ passed null
  unfolding replica_for copies_at
  replica_none b e = rw (le-leb 4 l b, eq-eqb (replica M v) null e)

  pub replica-found : 4 ≤ l → Followable M (replica M v) → i < count M (replica M v) → replica_for M count l v i ≡ passed (replica M v)
  unfolding replica_for copies_at
  replica-found b t k =
      rw (le-leb 4 l b, ne_eqb (replica M v) null (start_nonnull t.start), followed_start t, lt-ltb i (count M (replica M v)) k)

-- the other copy of what is in one half is that word forwarded to the other
across : {M : Memory} {h q : ℕ} → h < 2 → Ok M q → (Start M q → half_of q ≢ other_half h → Followable M q)
    → cond (in_half h q) (other_copy M q) (passed q) ≡ passed (fwd M (other_half h) q)
across {M} {h} {q} two (ok_null n) f = rw (n, in_half-null, fwd_null)
across {M} {h} {q} two (ok_start s) f = in_or h two s
    (λ o. let d : half_of q ≢ other_half h = λ n. other_differs h two (sym n ∙ o.side) in
    rw (in_half_yes s o.side, other_copy-passed (f s d), fwd_copy s d))
    (λ o. rw (in_half_no s (λ n. other_differs h two (sym o.side ∙ n)), fwd_there o))

-- ---- the words; q can be followed where it isn't in tospace
module _ (z : Heap) (two : z.from < 2) (l v : ℕ) {q : ℕ} (ok : Ok z.memory q) (f : Start z.memory q → half_of q ≢ to z → Followable z.memory q) where
  pub own_plain : l ≢ 5 → l ≢ 6 → own_word z l v q ≡ passed q
  unfolding own_word
  own_plain a b = rw (ne_eqb l 6 b, ne_eqb l 5 a)

  pub own_6 : l ≡ 6 → own_word z l v q ≡ passed (fwd z.memory (to z) q)
  unfolding own_word
  own_6 e = rw (eq-eqb l 6 e) (forward-passed (to z) ok f)

  -- Table 1(a), the record itself in fromspace
  pub own-from : Start z.memory v → half_of v ≢ to z → l ≡ 5 → own_word z l v q ≡ passed q
  unfolding own_word
  own-from t d e = rw (e, in_half_no t d)

  -- and in tospace
  pub own-to : Start z.memory v → half_of v ≡ to z → l ≡ 5 → own_word z l v q ≡ passed (fwd z.memory (to z) q)
  unfolding own_word
  own-to t d e = rw (e, in_half_yes t d) (across two ok f)

  pub copy-forward : l ≢ 5 → replica_word z l v q ≡ passed (fwd z.memory (to z) q)
  unfolding replica_word
  copy-forward d = rw (ne_eqb l 5 d) (forward-passed (to z) ok f)

  pub copy-from : half_of v ≡ z.from → l ≡ 5 → replica_word z l v q ≡ passed (fwd z.memory (to z) q)
  unfolding replica_word
  copy-from d e = rw (e, d) (across two ok f)

  -- the record itself in tospace: the other copy where q is there too
  pub copy-to : half_of v ≡ to z → l ≡ 5 → In z.memory (to z) q → Followable z.memory q → replica_word z l v q ≡ passed (copy_of z.memory q)
  unfolding replica_word
  copy-to d e o r = rw (e, d, in_half_yes o.start o.side) (other_copy-passed r)

  pub copy-to_other : half_of v ≡ to z → l ≡ 5 → (In z.memory (to z) q → ⊥) → replica_word z l v q ≡ passed q
  unfolding replica_word
  copy-to_other d e n = rw (e, d) (go ok)
    where
      go : Ok z.memory q → cond (in_half (to z) q) (other_copy z.memory q) (passed q) ≡ passed q
      go (ok_null e) = rw (e, in_half-null)
      go (ok_start s) = rw (in_half_no s (λ e. n (record { start = s; side = e })))

-- ---- all that a store writes
module _ (z : Heap) (l v i q : ℕ) where
  -- levels 0 to 3: the record itself, after shading
  pub store_low : {vs : List ℕ} → l ≤ 3 → barrier_shades z l (field z.memory v i) q ≡ passed vs
      → store_writes z l v i q ≡ passed (record { first = get_or vs 0 null; second = get_or vs 1 null; own = q; replica = null; copy = null })
  unfolding store_writes own_word
  store_low b e = rw (e, replica-low z.memory refs l v i b, ne_eqb l 6 (λ n. omega arith), ne_eqb l 5 (λ n. omega arith))

  -- levels 4 to 6: no shading
  pub no_shade : (old : ℕ) → 4 ≤ l → barrier_shades z l old q ≡ passed []
  unfolding barrier_shades
  no_shade old b = rw (shades_high l b)

  pub store_alone : {u : ℕ} → 4 ≤ l → replica z.memory v ≡ null → own_word z l v q ≡ passed u
      → store_writes z l v i q ≡ passed (record { first = null; second = null; own = u; replica = null; copy = null })
  unfolding store_writes
  store_alone b n e = rw (no_shade (field z.memory v i) b, replica_none z.memory refs l v i b n, e)

  pub store_both : {u y : ℕ} → 4 ≤ l → Followable z.memory (replica z.memory v) → i < refs z.memory (replica z.memory v)
      → own_word z l v q ≡ passed u → replica_word z l v q ≡ passed y
      → store_writes z l v i q ≡ passed (record { first = null; second = null; own = u; replica = replica z.memory v; copy = y })
  unfolding store_writes
  store_both b t k e c =
      rw (no_shade (field z.memory v i) b, replica-found z.memory refs l v i b t k, e, ne_eqb (replica z.memory v) null (start_nonnull t.start), c)

-- ---- what is written leaves the frontiers
pub both_front : (M : Memory) (v j x t k y g : ℕ) → frontier (put_both M v j x t k y) g ≡ frontier M g
unfolding put_both
both_front M v j x t k y g = pick (eqb t null)
  where
    pick : (b : Bool) → frontier (cond b (put M v j x) (put (put M v j x) t k y)) g ≡ frontier M g
    pick true = frontier-put M v j x g
    pick false = frontier-put (put M v j x) t k y g ∙ frontier-put M v j x g
