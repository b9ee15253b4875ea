-- What following a reference finds.
use Prim.Native.Nat.{ℕ, ◌+◌, ◌≤◌, ◌<◌}
use mathlib.Core.Path.{◌≡◌, ◌∙◌, sym, refl, ap}
use mathlib.Core.Bool.{Bool, true, false, cond, ◌&&◌}
use mathlib.Core.List.{List}
use native.Mathlib.Omega.{arith}
use lib.Dec.{leb}
use lib.ListN.{length}
use borrow.Author.Tests.{leb-true}
use Rattle.rules.specs.Refusals.{refused, passed}
use Rattle.rules.specs.Memory.{Memory, frontier, half_of, word_of, header, shape_at, black, refs_of, plains_of, word, colour, refs, plains, size, sound, followable, follow, followed, most_count, most_shape}
use Rattle.rules.specs.declared.Followed.{Followed}
use Rattle.rules.specs.declared.Followed.TheVariants.{Sound, Damage}
use Rattle.rules.proofs.Ranges.{both}
use Rattle.rules.proofs.memory.Followed.{can_follow}
use Rattle.heap.specs.View.{memory, Inside}
use Rattle.heap.proofs.Placing.{half_any, frontier-within}

-- ---- what is known of a record found

pub record Found (M : Memory) (v at r p : ℕ) : Type 0 where
  pub named : 2 ≤ v
  pub test : followable M v ≡ true
  pub follows : followed M v ≡ passed tt
  pub sound : sound M v ≡ true
  pub place : at ≡ word_of v
  pub refs : r ≡ refs M v
  pub plains : p ≡ plains M v
  pub few : r ≤ most_count
  pub some : p ≤ most_count
  pub below : word_of v + size M v ≤ frontier M (half_of v)

-- by what a test answered
pub split : (b : Bool) (k x y : ℕ) {at r p : ℕ} → cond b (Sound k x y) Damage ≡ Sound at r p → (b ≡ true) × (k ≡ at) × (x ≡ r) × (y ≡ p)
split true k x y e = (refl, cc, cc, cc)
split false k x y e = absurd (let z : ◌≡◌ {A = ℕ} 0 1 = cc in omega arith)

-- the tests of a sound reference, and its counts
small : (w : ℕ) → w ≤ most_shape → (refs_of w ≤ most_count) × (plains_of w ≤ most_count)
unfolding refs_of plains_of
small w h = (omega arith, omega arith)

sound-passed : (M : Memory) (v : ℕ) → sound M v ≡ true
    → (2 ≤ v) × (word M v shape_at ≤ most_shape) × (word_of v + size M v ≤ frontier M (half_of v))
unfolding sound
sound-passed M v e =
    let x = both (leb 2 v && leb (word M v shape_at) most_shape && leb (colour M v) black) (leb (word_of v + size M v) (frontier M (half_of v))) e in
    let y = both (leb 2 v && leb (word M v shape_at) most_shape) (leb (colour M v) black) x.0 in
    let z = both (leb 2 v) (leb (word M v shape_at) most_shape) y.0 in
    (leb-true 2 v z.0, leb-true (word M v shape_at) most_shape z.1, leb-true (word_of v + size M v) (frontier M (half_of v)) x.1)

pub sound-named : (M : Memory) (v : ℕ) → sound M v ≡ true → 2 ≤ v
sound-named M v e = (sound-passed M v e).0

pub sound-shape : (M : Memory) (v : ℕ) → sound M v ≡ true → word M v shape_at ≤ most_shape
sound-shape M v e = (sound-passed M v e).1

pub sound-below : (M : Memory) (v : ℕ) → sound M v ≡ true → word_of v + size M v ≤ frontier M (half_of v)
sound-below M v e = (sound-passed M v e).2

pub sound-small : (M : Memory) (v : ℕ) → sound M v ≡ true → (refs M v ≤ most_count) × (plains M v ≤ most_count)
unfolding refs plains
sound-small M v e = small (word M v shape_at) (sound-passed M v e).1

-- its length
pub size_most : (M : Memory) (v : ℕ) → sound M v ≡ true → size M v ≤ header + most_count + most_count
unfolding size
size_most M v e = let n = sound-small M v e in omega arith

pub found : {x : Followed} (M : Memory) (v : ℕ) {at r p : ℕ} → x ≡ follow M v → x ≡ Sound at r p → Found M v at r p
unfolding follow followed
found M v e s =
    let q = split (followable M v) (word_of v) (refs M v) (plains M v) (sym e ∙ s) in
    let t = (can_follow M v q.0).sound in
    let n = sound-small M v t in
    record {
      named = sound-named M v t;
      test = q.0;
      follows = rw q.0;
      sound = t;
      place = sym q.1;
      refs = sym q.2;
      plains = sym q.3;
      few = rw (← q.2) n.0;
      some = rw (← q.3) n.1;
      below = sound-below M v t;
    }

pub unsplit : (b : Bool) (k x y : ℕ) → cond b (Sound k x y) Damage ≡ Damage → b ≡ false
unsplit true k x y e = absurd (let z : ◌≡◌ {A = ℕ} 0 1 = cc in omega arith)
unsplit false k x y e = refl

pub lost : {x : Followed} (M : Memory) (v : ℕ) → x ≡ follow M v → x ≡ Damage → followed M v ≡ refused 12
unfolding follow followed
lost M v e d = rw (unsplit (followable M v) _ _ _ (sym e ∙ d))

-- ---- the words of a sound record are words of its half

module _ (h0 h1 : List ℕ) (f0 f1 v : ℕ) (s : sound (memory h0 h1 f0 f1) v ≡ true) (a : f0 ≤ length h0) (b : f1 ≤ length h1) where
  pub sound_inside : (j : ℕ) → j < size (memory h0 h1 f0 f1) v → Inside h0 h1 v j
  sound_inside j l =
      let f = frontier-within h0 h1 f0 f1 v a b in
      let k = sound-below (memory h0 h1 f0 f1) v s in
      let e = ap length (half_any h0 h1 f0 f1 (half_of v)) in
      record { named = sound-named (memory h0 h1 f0 f1) v s; below = omega arith }

  in_header : (j : ℕ) → j < header → j < size (memory h0 h1 f0 f1) v
  unfolding size
  in_header j l = omega arith

  pub header_inside : (j : ℕ) → j < header → Inside h0 h1 v j
  header_inside j l = sound_inside j (in_header j l)
