-- A word of a record written, past its first: what stays, and what is there after it.
use Prim.Native.Nat.{ℕ, ◌+◌, ◌≤◌, ◌<◌}
use mathlib.Core.Path.{◌≡◌, sym, ap, ◌∙◌}
use mathlib.Core.Logic.{◌≢◌, ◌⊎◌, inl, inr}
use native.Mathlib.Omega.{arith}
use lib.ListN.{length, set, length-set}
use lib.Seq.{get_or-set_same, get_or-set_other}
use Rattle.rules.specs.Memory.{Memory, half, frontier, half_of, word_of, word, put, colour, refs, plains, size, header, shape_at, colour_at, replica_at, black}
use Rattle.rules.proofs.memory.Cases.{eq_or}
use Rattle.rules.proofs.memory.Encoding.{half-below_2}
use Rattle.rules.proofs.memory.Chain.{pos, pos_set}
use Rattle.rules.proofs.memory.Halves.{half-same, half_other, frontier-half, length-half}
use Rattle.rules.proofs.memory.Records.{Start, Filled, refs-same, plains-same, size-at, size-least, start_inside, starts_apart}
use Rattle.rules.proofs.memory.Walk.{Walk}
use Rattle.rules.proofs.memory.Same.{SameStarts, start_kept, start_back, walk_kept}

-- M' is M with x as word j of the record v
pub record PutKept (M M' : Memory) (v j x : ℕ) : Type 0 where
  pub filled : Filled M'
  pub to : {w : ℕ} → Start M w → Start M' w
  pub back : {w : ℕ} → Start M' w → Start M w
  pub new : word M' v j ≡ x
  pub same : {w : ℕ} → Start M w → (i : ℕ) → i < size M w → w ≢ v ⊎ i ≢ j → word M' w i ≡ word M w i
  pub same-refs : {w : ℕ} → Start M w → refs M' w ≡ refs M w
  pub same-plains : {w : ℕ} → Start M w → plains M' w ≡ plains M w
  pub front : (h : ℕ) → frontier M' h ≡ frontier M h
  pub lengths : (h : ℕ) → length (half M' h) ≡ length (half M h)
  pub walk : {h k : ℕ} → h < 2 → Walk M h k → Walk M' h k
  pub same_starts : (h : ℕ) → h < 2 → SameStarts M M' h

-- ---- any write

pub frontier-put : (M : Memory) (v j x h : ℕ) → frontier (put M v j x) h ≡ frontier M h
unfolding put
frontier-put M v j x h = frontier-half M (half_of v) h (set (half M (half_of v)) (word_of v + j) x)

pub length-put : (M : Memory) (v j x h : ℕ) → length (half (put M v j x) h) ≡ length (half M h)
unfolding put
length-put M v j x h =
    length-half M (half_of v) h (set (half M (half_of v)) (word_of v + j) x) (length-set (half M (half_of v)) (word_of v + j) x)

put-here : (M : Memory) (v j x : ℕ) → half (put M v j x) (half_of v) ≡ set (half M (half_of v)) (word_of v + j) x
unfolding put
put-here M v j x = half-same M (half_of v) (set (half M (half_of v)) (word_of v + j) x)

put_there : (M : Memory) (v j x h : ℕ) → h < 2 → h ≢ half_of v → half (put M v j x) h ≡ half M h
unfolding put
put_there M v j x h two d = half_other M (half_of v) h (set (half M (half_of v)) (word_of v + j) x) (half-below_2 v) two d

-- ---- a write of word j of the record v, past the first
module _ {M : Memory} (f : Filled M) {v : ℕ} (s : Start M v) (j x : ℕ) (past : shape_at < j) (inside : j < size M v) where
  put_starts : (h : ℕ) → h < 2 → SameStarts M (put M v j x) h
  put_starts h two = record { chain = chain; front = frontier-put M v j x h }
    where
      chain : (n : ℕ) → pos (half (put M v j x) h) n ≡ pos (half M h) n
      chain n = eq_or h (half_of v)
          (λ e. rw (e, put-here, s.place) (pos_set (half M (half_of v)) s.num j x n (rw (size-at s) at inside) past))
          (λ d. rw (put_there M v j x h two d))

  put_back : {w : ℕ} → Start (put M v j x) w → Start M w
  put_back {w} t = start_back (put_starts (half_of w) (half-below_2 w)) t

  put_new : word (put M v j x) v j ≡ x
  unfolding word
  put_new = rw put-here (get_or-set_same (half M (half_of v)) (word_of v + j) x 0 (start_inside f s j inside))

  put_same : {w : ℕ} → Start M w → (i : ℕ) → i < size M w → w ≢ v ⊎ i ≢ j → word (put M v j x) w i ≡ word M w i
  unfolding word
  put_same {w} t i l d = eq_or (half_of w) (half_of v)
      (λ e. rw (e, put-here) (get_or-set_other (half M (half_of v)) (word_of v + j) (word_of w + i) x 0 (starts_apart s t j i e inside l d)))
      (λ e. rw (put_there M v j x (half_of w) (half-below_2 w) e))

  put-shape : {w : ℕ} → Start M w → word (put M v j x) w shape_at ≡ word M w shape_at
  put-shape {w} t = put_same t shape_at (omega (arith, size-least M w)) (inr (omega arith))

  put-colour_bound : (j ≡ colour_at → x ≤ black) → {w : ℕ} → Start M w → colour (put M v j x) w ≤ black
  unfolding colour
  put-colour_bound small {w} t =
      let keep : w ≢ v ⊎ colour_at ≢ j → word (put M v j x) w colour_at ≤ black = λ d. rw (put_same t colour_at (omega (arith, size-least M w)) d) (f.colours t) in
      eq_or w v
      (λ e. eq_or colour_at j
      (λ q. let n : word (put M v j x) v colour_at ≡ x = ap (word (put M v j x) v) q ∙ put_new in rw (e, n) (small (sym q)))
      (λ q. keep (inr q)))
      (λ e. keep (inl e))

  put-kept : (j ≡ colour_at → x ≤ black) → PutKept M (put M v j x) v j x
  put-kept small = record {
    filled = record {
      count = f.count;
      full = λ h two. rw ((put_starts h two).chain (f.count h), frontier-put M v j x h) (f.full h two);
      fits = λ h two. rw (frontier-put M v j x h, length-put M v j x h) (f.fits h two);
      shapes = λ t. rw (put-shape (put_back t)) (f.shapes (put_back t));
      colours = λ t. put-colour_bound small (put_back t);
    };
    to = λ {w} t. start_kept (put_starts (half_of w) (half-below_2 w)) t;
    back = put_back;
    new = put_new;
    same = put_same;
    same-refs = λ {w} t. refs-same M (put M v j x) w (put-shape t);
    same-plains = λ {w} t. plains-same M (put M v j x) w (put-shape t);
    front = frontier-put M v j x;
    lengths = length-put M v j x;
    walk = λ {h} two t. walk_kept (put_starts h two) t;
    same_starts = put_starts;
  }

-- the writes that there are: the colour, the replica word, a field
module _ {M : Memory} (f : Filled M) {v : ℕ} (s : Start M v) where
  pub put-colour : (c : ℕ) → c ≤ black → PutKept M (put M v colour_at c) v colour_at c
  put-colour c l = put-kept f s colour_at c (omega arith) (omega (arith, size-least M v)) (λ e. l)

  pub put-replica : (x : ℕ) → PutKept M (put M v replica_at x) v replica_at x
  put-replica x = put-kept f s replica_at x (omega arith) (omega (arith, size-least M v)) (λ e. absurd (omega arith))

  pub put-field : (j x : ℕ) → header ≤ j → j < size M v → PutKept M (put M v j x) v j x
  put-field j x p l = put-kept f s j x (omega arith) l (λ e. absurd (omega arith))
