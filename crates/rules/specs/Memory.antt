-- Memory and references: the two halves, references, records, following and forwarding.
use Rattle.std.specs.Prelude.{ℕ, ◌+◌, ◌*◌, ◌-◌, ◌/◌, ◌%◌, Bool, cond, not, ◌&&◌, ◌||◌, List, ◌∷◌, leb, eqb, get_or, set, replicate, length}
use Rattle.std.proofs.lemmas.List.Edits.{sets}
use Rattle.rules.specs.Refusals.{Tested, passed, check, ◌>>◌}
use Rattle.rules.specs.declared.Followed.{Followed}
use Rattle.rules.specs.declared.Followed.TheVariants.{Sound, Damage}

-- ---- the halves

-- the words of half 0 and half 1, and the frontier of each
pub record Memory : Type 0 where
  pub half0 : List ℕ
  pub half1 : List ℕ
  pub frontier0 : ℕ
  pub frontier1 : ℕ

unfoldable pub half : Memory → ℕ → List ℕ
half M h = cond (eqb h 0) M.half0 M.half1

unfoldable pub frontier : Memory → ℕ → ℕ
frontier M h = cond (eqb h 0) M.frontier0 M.frontier1

unfoldable pub with_half : Memory → ℕ → List ℕ → Memory
with_half M h ws =
    record {
      half0 = cond (eqb h 0) ws M.half0;
      half1 = cond (eqb h 0) M.half1 ws;
      frontier0 = M.frontier0;
      frontier1 = M.frontier1;
    }

unfoldable pub with_frontier : Memory → ℕ → ℕ → Memory
with_frontier M h f =
    record {
      half0 = M.half0;
      half1 = M.half1;
      frontier0 = cond (eqb h 0) f M.frontier0;
      frontier1 = cond (eqb h 0) M.frontier1 f;
    }

-- ---- references

-- "Reference 0 is null"
abbrev pub null : ℕ
null = 0

-- "Word k of half h has reference 2 × k + 2 + h"
unfoldable pub reference : ℕ → ℕ → ℕ
reference h k = 2 * k + 2 + h

-- the half and the word of a reference from 2 on
unfoldable pub half_of : ℕ → ℕ
half_of v = v % 2

unfoldable pub word_of : ℕ → ℕ
word_of v = (v - 2) / 2

-- a reference to a word of half h; "reference 1 names nothing"
unfoldable pub in_half : ℕ → ℕ → Bool
in_half h v = leb 2 v && eqb (half_of v) h

-- ---- records

-- the words of a record before its fields: word 0 the shape, word 1 the colour, word 2 the replica; request [6]: "A fourth header word
-- holds its birth number"
abbrev pub header : ℕ
header = 4

-- the most fields of one kind: "each 0 to 255"
abbrev pub most_count : ℕ
most_count = 255

-- word 0 of a record with r reference and p plain fields; 256 is one more than most_count
unfoldable pub shape_word : ℕ → ℕ → ℕ
shape_word r p = 256 * r + p

unfoldable pub refs_of : ℕ → ℕ
refs_of w = w / 256

unfoldable pub plains_of : ℕ → ℕ
plains_of w = w % 256

-- the most that word 0 may be, 65,535: the word of most_count fields of each kind
abbrev pub most_shape : ℕ
most_shape = 256 * most_count + most_count

-- the words of a record with r and p fields
abbrev pub size_of : ℕ → ℕ → ℕ
size_of r p = header + r + p

-- colours
abbrev pub white : ℕ
white = 0

abbrev pub grey : ℕ
grey = 1

abbrev pub black : ℕ
black = 2

-- the words of a new record: word 0, colour, replica, birth number, and n zero fields
unfoldable pub new_record : ℕ → ℕ → ℕ → ℕ → ℕ → List ℕ
new_record w c v b n = w ∷ c ∷ v ∷ b ∷ replicate n 0

-- word j of the record that v names
unfoldable pub word : Memory → ℕ → ℕ → ℕ
word M v j = get_or (half M (half_of v)) (word_of v + j) 0

-- the memory with x as word j of the record that v names
unfoldable pub put : Memory → ℕ → ℕ → ℕ → Memory
put M v j x = with_half M (half_of v) (set (half M (half_of v)) (word_of v + j) x)

abbrev pub shape_at : ℕ
shape_at = 0

abbrev pub colour_at : ℕ
colour_at = 1

abbrev pub replica_at : ℕ
replica_at = 2

abbrev pub birth_at : ℕ
birth_at = 3

unfoldable pub colour : Memory → ℕ → ℕ
colour M v = word M v colour_at

-- "the reference of its replica in the other half, or 0"
unfoldable pub replica : Memory → ℕ → ℕ
replica M v = word M v replica_at

unfoldable pub birth_number : Memory → ℕ → ℕ
birth_number M v = word M v birth_at

unfoldable pub refs : Memory → ℕ → ℕ
refs M v = refs_of (word M v shape_at)

unfoldable pub plains : Memory → ℕ → ℕ
plains M v = plains_of (word M v shape_at)

unfoldable pub size : Memory → ℕ → ℕ
size M v = size_of (refs M v) (plains M v)

-- the word of a reference field, and of a plain field after r reference fields
abbrev pub ref_field : ℕ → ℕ
ref_field i = header + i

abbrev pub plain_field : ℕ → ℕ → ℕ
plain_field r i = header + r + i

-- a record's words put at the frontier of half h, which moves past them
unfoldable pub append : Memory → ℕ → List ℕ → Memory
append M h ws = with_frontier (with_half M h (sets (half M h) (frontier M h) ws)) h (frontier M h + length ws)

-- the reference that a record put there gets
unfoldable pub next_reference : Memory → ℕ → ℕ
next_reference M h = reference h (frontier M h)

-- ---- following

-- "A reference is sound when it names a word at which word 0 is at most 65,535, the colour at most 2, and the whole record lies below the frontier"
unfoldable pub sound : Memory → ℕ → Bool
sound M v =
    leb 2 v && leb (word M v shape_at) most_shape && leb (colour M v) black
    && leb (word_of v + size M v) (frontier M (half_of v))

-- Request [5], of a replica w of v: "a record in the other half, sound by the old test, with equal word 0 and a replica word naming this one"
unfoldable pub points_back : Memory → ℕ → ℕ → Bool
points_back M w v =
    sound M w && not (eqb (half_of w) (half_of v)) && eqb (word M w shape_at) (word M v shape_at) && eqb (replica M w) v

-- the test of following: sound, and "a non-zero replica word" names a replica that points back
unfoldable pub followable : Memory → ℕ → Bool
followable M v = sound M v && (eqb (replica M v) null || points_back M (replica M v) v)

-- "Following ends in one of two answers, the record's shape and place or damage"
unfoldable pub follow : Memory → ℕ → Followed
follow M v = cond (followable M v) (Sound (word_of v) (refs M v) (plains M v)) Damage

-- the test of a call that follows v: "damage leaves the call there"
unfoldable pub followed : Memory → ℕ → Tested (Unit {0})
followed M v = check (followable M v) 12

-- ---- the other copy of a record

-- its replica's reference, or its own where it has no replica
unfoldable pub copy_of : Memory → ℕ → ℕ
copy_of M v = cond (eqb (replica M v) null) v (replica M v)

-- the same, with the test that v can be followed
unfoldable pub other_copy : Memory → ℕ → Tested ℕ
other_copy M v = do
  followed M v
  passed (copy_of M v)

-- "Forwarding gives the replica's reference, or the same one if it is in tospace, null, or has no replica"
unfoldable pub forward : Memory → ℕ → ℕ → Tested ℕ
forward M tospace v = cond (eqb v null || in_half tospace v) (passed v) (other_copy M v)
