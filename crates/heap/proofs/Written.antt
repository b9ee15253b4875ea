-- A new record written into a lent part of a half, and the part come back.
use Prim.Native.Nat.{ℕ, suc, ◌+◌, ◌-◌, ◌≤◌}
use mathlib.Core.Path.{◌≡◌, refl, ◌∙◌, sym, ap}
use mathlib.Core.List.{List, [], ◌++◌, append_assoc, append-nil}
use native.Mathlib.Omega.{arith}
use native.Mathlib.Nat.{zero-add}
use lib.ListN.{length, take, drop, set, replicate, length-drop, length-replicate, drop_of_length-le}
use denote.Enum.Declared.{tag_of}
use Rattle.std.proofs.lemmas.List.{length-take-le}
use lib.Seq.{take_all, drop-drop, sets, sets-eq}
use Rattle.rules.specs.Memory.{Memory, half, frontier, with_half, with_frontier, new_record, append, header, shape_at, colour_at, replica_at, birth_at}
use Rattle.heap.specs.Halves.{word_of_colour}
use Rattle.heap.specs.contracts.Colour.{the_type}
use Rattle.heap.specs.declared.Colour.{Colour}
use Rattle.heap.specs.declared.Colour.TheVariants.{White, Grey, Black}

-- the number of a colour in the code is its word
pub colour-word : (x : Colour) → tag_of the_type x ≡ word_of_colour x
colour-word White = refl
colour-word Grey = refl
colour-word Black = refl

four : (n : ℕ) → n + header ≡ suc (suc (suc (suc n)))
four n = omega arith

pub record_length : (w c v b n : ℕ) → length (new_record w c v b n) ≡ n + header
unfolding new_record
record_length w c v b n = ap (λ (k : ℕ). suc (suc (suc (suc k)))) (length-replicate n 0) ∙ sym (four n)

-- ---- the lent part

sets_start : (vs l : List ℕ) → length vs ≤ length l → sets l 0 vs ≡ vs ++ drop (length vs) l
sets_start vs l h = let g : 0 + length vs ≤ length l = omega arith in sets-eq vs l 0 g ∙ ap (λ (k : ℕ). vs ++ drop k l) (zero-add (length vs))

header-set : (part : List ℕ) (w c v b n : ℕ) → set (set (set (set (replicate (n + header) 0 ++ drop (n + header) part) shape_at w) colour_at c) replica_at v) birth_at b ≡ new_record w c v b n ++ drop (n + header) part
unfolding new_record
header-set part w c v b n = rw (four n)

pub record_written : {zeros : List ℕ} (part : List ℕ) (w c v b n : ℕ) → n + header ≤ length part → zeros ≡ replicate (length (take (n + header) part)) 0
    → set (set (set (set (zeros ++ drop (n + header) part) shape_at w) colour_at c) replica_at v) birth_at b ≡ sets part 0 (new_record w c v b n)
record_written part w c v b n h z =
    let e = record_length w c v b n in
    let g : length (new_record w c v b n) ≤ length part = omega arith in
    rw (z, length-take-le (n + header) part h) (header-set part w c v b n) ∙ ap (λ (k : ℕ). new_record w c v b n ++ drop k part) (sym e) ∙ sym (sets_start (new_record w c v b n) part g)

-- ---- the part from a word on, come back

rest : (a : ℕ) (xs : List ℕ) → take (length xs - a) (drop a xs) ≡ drop a xs
rest a xs = take_all (length xs - a) (drop a xs) (simp length-drop (omega arith))

none_left : (a : ℕ) (xs : List ℕ) → drop (length xs - a) (drop a xs) ≡ []
none_left a xs = drop_of_length-le _ {i = length xs - a} (simp length-drop (omega arith))

sets_part : (a : ℕ) (xs ws : List ℕ) → a + length ws ≤ length xs → take a xs ++ sets (drop a xs) 0 ws ≡ sets xs a ws
sets_part a xs ws h =
    let g : length ws ≤ length (drop a xs) = simp length-drop (omega arith) in
    ap (λ (l : List ℕ). take a xs ++ l) (sets_start ws (drop a xs) g ∙ ap (λ (l : List ℕ). ws ++ l) (drop-drop (length ws) a xs))
    ∙ sym (append_assoc (take a xs) ws (drop (a + length ws) xs)) ∙ sym (sets-eq ws xs a h)

pub part_back : (a : ℕ) (xs ws : List ℕ) → a + length ws ≤ length xs
    → take a xs ++ (sets (take (length xs - a) (drop a xs)) 0 ws ++ drop (length xs - a) (drop a xs)) ≡ sets xs a ws
part_back a xs ws h = rw (rest, none_left, append-nil) (sets_part a xs ws h)

-- ---- appending

-- the record put at the frontier, which moves past it, is the record appended
pub appended : {N : Memory} (M : Memory) (h w c v b n : ℕ) → N ≡ with_half M h (sets (half M h) (frontier M h) (new_record w c v b n))
    → with_frontier N h (frontier M h + (n + header)) ≡ append M h (new_record w c v b n)
unfolding append
appended M h w c v b n e = rw (record_length w c v b n, e)
