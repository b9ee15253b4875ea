-- A new record at the frontier of a half: what stays, and what is there after it.
use Prim.Native.Nat.{ℕ, suc, ◌+◌, ◌≤◌, ◌<◌}
use mathlib.Core.Path.{◌≡◌, refl, sym, ap, ◌∙◌}
use mathlib.Core.Logic.{◌≢◌, ◌⊎◌, inl, inr}
use mathlib.Core.Bool.{cond}
use mathlib.Core.List.{List}
use native.Mathlib.Nat.{le_refl}
use native.Mathlib.Omega.{arith}
use lib.Dec.{eqb}
use lib.ListN.{length, get_or, length-replicate, get_or-replicate}
use lib.Seq.{sets, length-sets, get_or-drop}
use borrow.Author.Tests.{eq-eqb, ne_eqb}
use Rattle.rules.specs.Memory.{Memory, half, frontier, with_half, reference, half_of, word_of, refs_of, plains_of, new_record, word, append, next_reference, colour, replica, birth_number, refs, plains, size, header, shape_at, most_shape, colour_at, replica_at, birth_at, black}
use Rattle.rules.proofs.memory.Cases.{lt_or, eq_or, either}
use Rattle.rules.proofs.memory.Encoding.{half-reference, word-reference, half-below_2, reference_again}
use Rattle.rules.proofs.memory.Chain.{pos, size_at, pos_suc, pos_lt, lt_of_pos, le_of_pos, sets-before, sets_in, pos_sets}
use Rattle.rules.proofs.memory.Halves.{half-same, half_other, frontier-half, half-frontier, frontier-same, frontier_other, length-half}
use Rattle.rules.proofs.memory.Records.{Start, Filled, start_at, size_number, size-fields, size-least, start_whole}
use Rattle.rules.proofs.memory.Walk.{Walk}
use Rattle.rules.proofs.memory.Same.{SameStarts, start_kept, start_back, walk_kept}

-- ---- any words put at the frontier

module _ (M : Memory) (h : ℕ) (ws : List ℕ) where
  append-here : half (append M h ws) h ≡ sets (half M h) (frontier M h) ws
  unfolding append
  append-here = half-frontier (with_half M h (sets (half M h) (frontier M h) ws)) h (frontier M h + length ws) h ∙ half-same M h (sets (half M h) (frontier M h) ws)

  append_there : (g : ℕ) → h < 2 → g < 2 → g ≢ h → half (append M h ws) g ≡ half M g
  unfolding append
  append_there g two l d = half-frontier (with_half M h (sets (half M h) (frontier M h) ws)) h (frontier M h + length ws) g ∙ half_other M h g (sets (half M h) (frontier M h) ws) two l d

  pub frontier-here : frontier (append M h ws) h ≡ frontier M h + length ws
  unfolding append
  frontier-here = frontier-same (with_half M h (sets (half M h) (frontier M h) ws)) h (frontier M h + length ws)

  pub frontier_there : (g : ℕ) → h < 2 → g < 2 → g ≢ h → frontier (append M h ws) g ≡ frontier M g
  unfolding append
  frontier_there g two l d = frontier_other (with_half M h (sets (half M h) (frontier M h) ws)) h (frontier M h + length ws) g two l d ∙ frontier-half M h g (sets (half M h) (frontier M h) ws)

  pub length-append : (g : ℕ) → length (half (append M h ws) g) ≡ length (half M g)
  unfolding append
  length-append g = ap length (half-frontier (with_half M h (sets (half M h) (frontier M h) ws)) h (frontier M h + length ws) g) ∙ length-half M h g (sets (half M h) (frontier M h) ws) (length-sets (half M h) (frontier M h) ws)

-- ---- the words of a new record

pub length_record : (w c v b n : ℕ) → length (new_record w c v b n) ≡ header + n
unfolding new_record
length_record w c v b n = rw length-replicate (omega arith)

record_zero : (w c v b n i : ℕ) → i < n → get_or (new_record w c v b n) (header + i) 0 ≡ 0
unfolding new_record
record_zero w c v b n i l = sym (get_or-drop header (new_record w c v b n) i 0) ∙ get_or-replicate n i 0 0 l

record_shape : (w c v b n : ℕ) → get_or (new_record w c v b n) shape_at 0 ≡ w
unfolding new_record
record_shape w c v b n = refl

record_colour : (w c v b n : ℕ) → get_or (new_record w c v b n) colour_at 0 ≡ c
unfolding new_record
record_colour w c v b n = refl

record_replica : (w c v b n : ℕ) → get_or (new_record w c v b n) replica_at 0 ≡ v
unfolding new_record
record_replica w c v b n = refl

record_birth : (w c v b n : ℕ) → get_or (new_record w c v b n) birth_at 0 ≡ b
unfolding new_record
record_birth w c v b n = refl

-- ---- a record of word 0 w, colour c and n fields may be put at the frontier of half h
pub record Appendable (M : Memory) (h w c n : ℕ) : Type 0 where
  pub filled : Filled M
  pub side : h < 2
  pub shape : w ≤ most_shape
  pub tint : c ≤ black
  pub fields : n ≡ refs_of w + plains_of w
  pub room : frontier M h + (header + n) ≤ length (half M h)

-- M' is M with that record put there
pub record Appended (M M' : Memory) (h w c v b n : ℕ) : Type 0 where
  pub before : Appendable M h w c n
  pub filled : Filled M'
  -- old starts, and the new one
  pub to : {u : ℕ} → Start M u → Start M' u
  pub made : Start M' (next_reference M h)
  pub split : {u : ℕ} → Start M' u → Start M u ⊎ u ≡ next_reference M h
  pub made_half : half_of (next_reference M h) ≡ h
  -- words of old starts
  pub same : {u : ℕ} → Start M u → (i : ℕ) → i < size M u → word M' u i ≡ word M u i
  -- words of the new one
  pub new_colour : colour M' (next_reference M h) ≡ c
  pub new_replica : replica M' (next_reference M h) ≡ v
  pub new_birth : birth_number M' (next_reference M h) ≡ b
  pub new_field : (i : ℕ) → i < n → word M' (next_reference M h) (header + i) ≡ 0
  pub new_refs : refs M' (next_reference M h) ≡ refs_of w
  pub new_plains : plains M' (next_reference M h) ≡ plains_of w
  pub new_size : size M' (next_reference M h) ≡ header + n
  -- frontiers, lengths, walks
  pub front : frontier M' h ≡ frontier M h + (header + n)
  pub front_other : (g : ℕ) → g < 2 → g ≢ h → frontier M' g ≡ frontier M g
  pub lengths : (g : ℕ) → length (half M' g) ≡ length (half M g)
  pub walk : {g k : ℕ} → g < 2 → Walk M g k → Walk M' g k
  pub same_starts : (g : ℕ) → g < 2 → g ≢ h → SameStarts M M' g
  -- the records of half h, by number
  pub chain : (k : ℕ) → k ≤ before.filled.count h → pos (half M' h) k ≡ pos (half M h) k

module _ {M : Memory} {h w c n : ℕ} (a : Appendable M h w c n) (v b : ℕ) where
  abbrev vs : List ℕ
  vs = new_record w c v b n

  abbrev M' : Memory
  M' = append M h vs

  -- the number of records so far
  last : ℕ
  last = a.filled.count h

  at-end : pos (half M h) last ≡ frontier M h
  unfolding last
  at-end = a.filled.full h a.side

  grown : half M' h ≡ sets (half M h) (pos (half M h) last) vs
  grown = rw at-end (append-here M h vs)

  chain_to : (k : ℕ) → k ≤ last → pos (half M' h) k ≡ pos (half M h) k
  chain_to k l = rw grown (pos_sets (half M h) vs last k l)

  chain_end : pos (half M' h) last ≡ frontier M h
  chain_end = chain_to last (le_refl last) ∙ at-end

  append-front : frontier M' h ≡ frontier M h + (header + n)
  append-front = frontier-here M h vs ∙ rw (length_record w c v b n)

  append-front_other : (g : ℕ) → g < 2 → g ≢ h → frontier M' g ≡ frontier M g
  append-front_other g l d = frontier_there M h vs g a.side l d

  -- ---- words

  word_new : (j : ℕ) → j < header + n → word M' (next_reference M h) j ≡ get_or vs j 0
  unfolding word next_reference
  word_new j l =
      rw (half-reference h (frontier M h) a.side, word-reference h (frontier M h) a.side, append-here M h vs)
      (sets_in (half M h) vs (frontier M h) j (rw (length_record w c v b n) a.room) (rw (length_record w c v b n) l))

  word_old : {u : ℕ} → Start M u → (i : ℕ) → i < size M u → word M' u i ≡ word M u i
  unfolding word
  word_old {u} s i l = eq_or (half_of u) h
      (λ e. rw (e, append-here M h vs) (sets-before (half M h) vs (frontier M h) (word_of u + i)
      (let q : word_of u + size M u ≤ frontier M h = rw e at (start_whole a.filled s) in omega arith)))
      (λ d. rw (append_there M h vs (half_of u) a.side (half-below_2 u) d))

  shape_old : {u : ℕ} → Start M u → word M' u shape_at ≡ word M u shape_at
  shape_old {u} s = word_old s shape_at (omega (arith, size-least M u))

  colour_old : {u : ℕ} → Start M u → colour M' u ≡ colour M u
  unfolding colour
  colour_old {u} s = word_old s colour_at (omega (arith, size-least M u))

  shape_new : word M' (next_reference M h) shape_at ≡ w
  shape_new = word_new shape_at (omega arith) ∙ record_shape w c v b n

  colour_new : colour M' (next_reference M h) ≡ c
  unfolding colour
  colour_new = word_new colour_at (omega arith) ∙ record_colour w c v b n

  replica_new : replica M' (next_reference M h) ≡ v
  unfolding replica
  replica_new = word_new replica_at (omega arith) ∙ record_replica w c v b n

  birth_new : birth_number M' (next_reference M h) ≡ b
  unfolding birth_number
  birth_new = word_new birth_at (omega arith) ∙ record_birth w c v b n

  refs_new : refs M' (next_reference M h) ≡ refs_of w
  unfolding refs
  refs_new = rw shape_new

  plains_new : plains M' (next_reference M h) ≡ plains_of w
  unfolding plains
  plains_new = rw shape_new

  size_new : size M' (next_reference M h) ≡ header + n
  size_new = omega (arith, size-fields M' (next_reference M h), refs_new, plains_new, a.fields)

  -- ---- starts

  next_pos : pos (half M' h) (suc last) ≡ frontier M h + (header + n)
  unfolding next_reference
  next_pos =
      let z : size_at (half M' h) last ≡ header + n = sym (size_number M' h last a.side) ∙ rw chain_end size_new in
      pos_suc (half M' h) last ∙ rw (chain_end, z)

  starts_other : (g : ℕ) → g < 2 → g ≢ h → SameStarts M M' g
  starts_other g l d = record { chain = λ k. rw (append_there M h vs g a.side l d); front = append-front_other g l d }

  start_new : Start M' (next_reference M h)
  unfolding next_reference
  start_new = rw chain_end at (start_at M' h last a.side (rw (chain_end, append-front) (omega arith)))

  start_old : {u : ℕ} → Start M u → Start M' u
  start_old {u} s = eq_or (half_of u) h
      (λ e.
      let q : pos (half M' h) s.num ≡ pos (half M h) s.num = chain_to s.num (before e) in
      record {
        num = s.num;
        named = s.named;
        place = rw (e, q) (rw e at s.place);
        below = rw (e, append-front) (let b : word_of u < frontier M h = rw e at s.below in omega arith);
      })
      (λ d. start_kept (starts_other (half_of u) (half-below_2 u) d) s)
    where
      before : half_of u ≡ h → s.num ≤ last
      before e = le_of_pos (half M h) s.num last (rw at-end (let b : word_of u < frontier M h = rw e at s.below in let p : word_of u ≡ pos (half M h) s.num = rw e at s.place in omega arith))

  start_split : {u : ℕ} → Start M' u → Start M u ⊎ u ≡ next_reference M h
  unfolding next_reference
  start_split {u} t = eq_or (half_of u) h here (λ d. inl (start_back (starts_other (half_of u) (half-below_2 u) d) t))
    where
      here : half_of u ≡ h → Start M u ⊎ u ≡ reference h (frontier M h)
      here e =
          let p : word_of u ≡ pos (half M' h) t.num = rw e at t.place in
          let b : word_of u < frontier M' h = rw e at t.below in
          lt_or t.num last
          (λ l.
          let q : word_of u ≡ pos (half M h) t.num = p ∙ chain_to t.num (omega arith) in
          inl (record { num = t.num; named = t.named; place = rw e q; below = rw e (omega (arith, q, at-end, pos_lt (half M h) t.num last l)) }))
          (λ l.
          let g : t.num < suc last = lt_of_pos (half M' h) t.num (suc last) (omega (arith, p, b, append-front, next_pos)) in
          let o : t.num ≡ last = omega arith in
          let k : word_of u ≡ frontier M h = p ∙ rw o chain_end in
          inr (sym (reference_again u t.named) ∙ rw (e, k)))

  walk_on : {g k : ℕ} → g < 2 → Walk M g k → Walk M' g k
  walk_on {g} {k} l t = eq_or g h
      (λ e. rw e (same_half (rw e at t)))
      (λ d. walk_kept (starts_other g l d) t)
    where
      same_half : Walk M h k → Walk M' h k
      same_half t = record {
        num = t.num;
        place = rw (chain_to t.num (le_of_pos (half M h) t.num last (rw (at-end, ← t.place) t.within))) t.place;
        within = rw append-front (let b = t.within in omega arith);
      }

  -- ---- all of it

  filled-after : Filled M'
  unfolding last
  filled-after = record {
    count = λ g. cond (eqb g h) (suc (a.filled.count g)) (a.filled.count g);
    full = λ g l. eq_or g h
        (λ e. rw (e, eq-eqb h h refl) (next_pos ∙ sym append-front))
        (λ d. rw (ne_eqb g h d, append_there M h vs g a.side l d, append-front_other g l d) (a.filled.full g l));
    fits = λ g l. eq_or g h
        (λ e. rw (e, append-front, length-append M h vs h) a.room)
        (λ d. rw (append-front_other g l d, length-append M h vs g) (a.filled.fits g l));
    shapes = λ t. either (start_split t) (λ s. rw (shape_old s) (a.filled.shapes s)) (λ e. rw (e, shape_new) a.shape);
    colours = λ t. either (start_split t) (λ s. rw (colour_old s) (a.filled.colours s)) (λ e. rw (e, colour_new) a.tint);
  }

  pub append-kept : Appended M (append M h (new_record w c v b n)) h w c v b n
  unfolding next_reference last
  append-kept = record {
    before = a;
    filled = filled-after;
    to = start_old;
    made = start_new;
    split = start_split;
    made_half = half-reference h (frontier M h) a.side;
    same = word_old;
    new_colour = colour_new;
    new_replica = replica_new;
    new_birth = birth_new;
    new_field = λ i l. word_new (header + i) (omega arith) ∙ record_zero w c v b n i l;
    new_refs = refs_new;
    new_plains = plains_new;
    new_size = size_new;
    front = append-front;
    front_other = append-front_other;
    lengths = length-append M h vs;
    walk = walk_on;
    same_starts = starts_other;
    chain = chain_to;
  }
