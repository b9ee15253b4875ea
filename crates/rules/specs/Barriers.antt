-- Phases and levels: shading, and what stores, puts, plain writes, same and allocation do by the session's level.
use Rattle.std.specs.Prelude.{ℕ, suc, ◌+◌, Bool, true, false, cond, not, ◌&&◌, ◌||◌, List, [], ◌∷◌, leb, ltb, eqb, get_or, set, length}
use Rattle.rules.specs.Refusals.{Tested, passed, check, ◌>>=◌, ◌>>◌}
use Rattle.rules.specs.Memory.{Memory, half, frontier, null, half_of, in_half, shape_word, size_of, white, grey, black, colour_at, new_record, word, put, colour, replica, refs, ref_field, append, next_reference, followed, other_copy, forward}
use Rattle.rules.specs.Control.{Store, with_memory, with_list}
use Rattle.rules.specs.Phases.{other_half, fromspace, tospace}
use Rattle.rules.specs.declared.Writes.{Writes}

-- ---- what a barrier looks at

-- the memory, which half is fromspace, and the end and the length of the grey list
pub record Heap : Type 0 where
  pub memory : Memory
  pub from : ℕ
  pub tail : ℕ
  pub capacity : ℕ

abbrev pub heap_of : Store → Heap
heap_of s = record { memory = s.memory; from = fromspace s; tail = s.list.tail; capacity = length s.list.words }

-- tospace
abbrev pub to : Heap → ℕ
to z = other_half z.from

-- ---- shading

-- "Shading a white record colours it grey, appends it to the list .. Null and other colours: nothing."
-- The reference to shade, or null where there is nothing to do.
unfoldable pub to_shade : Memory → ℕ → Tested ℕ
to_shade M v = cond (eqb v null) (passed null) (do
  followed M v
  passed (cond (eqb (colour M v) white) v null))

-- n more entries fit in the list
unfoldable pub list_room : Heap → ℕ → Tested (Unit {0})
list_room z n = check (leb (z.tail + n) z.capacity) 12

-- what there is to shade of one reference, with room for it in the list
unfoldable pub shading : Heap → ℕ → Tested ℕ
shading z v = do
  w ← to_shade z.memory v
  list_room z (cond (eqb w null) 0 1)
  passed w

-- the record v shaded, or nothing where v is null. Request [3]: "Shading no longer clears scanned marks"
unfoldable pub shade : Store → ℕ → Store
shade s v = cond (eqb v null) s
    (with_list (with_memory s (put s.memory v colour_at grey))
    (set s.list.words s.list.tail v) s.list.head (s.list.tail + 1))

-- ---- shading several references

-- a list without the entries equal to v
abbrev pub without : ℕ → List ℕ → List ℕ
without v [] = []
without v (w ∷ ws) = cond (eqb v w) (without v ws) (w ∷ without v ws)

-- the white records among references, each once, in the order met
abbrev pub to_shade_all : Memory → List ℕ → Tested (List ℕ)
to_shade_all M [] = passed []
to_shade_all M (v ∷ vs) = do
  w ← to_shade M v
  ws ← to_shade_all M vs
  passed (cond (eqb w null) ws (w ∷ without w ws))

-- records to shade, with room in the list for all of them
unfoldable pub listing : Heap → List ℕ → Tested (List ℕ)
listing z vs = do
  list_room z (length vs)
  passed vs

-- the white records among references, with room for all of them
unfoldable pub shading_all : Heap → List ℕ → Tested (List ℕ)
shading_all z vs = do
  ws ← to_shade_all z.memory vs
  listing z ws

abbrev pub shade_all : Store → List ℕ → Store
shade_all s [] = s
shade_all s (v ∷ vs) = shade_all (shade s v) vs

-- ---- stores and puts by level

-- "1 to 3 first shade the stored record"
unfoldable pub shades_at : ℕ → Bool
shades_at l = leb 1 l && leb l 3

-- Request [3]: "Stores and puts at levels 2 and 3 now also shade the reference they overwrite, before the stored one"
unfoldable pub shades_old_at : ℕ → Bool
shades_old_at l = leb 2 l && leb l 3

-- levels 4 to 6 write to the replica too
unfoldable pub copies_at : ℕ → Bool
copies_at l = leb 4 l

-- what a store or a put of q over old shades at level l: at most two records, in the order in which they are shaded
unfoldable pub barrier_shades : Heap → ℕ → ℕ → ℕ → Tested (List ℕ)
barrier_shades z l old q = cond (shades_at l) (shading_all z (cond (shades_old_at l) old null ∷ q ∷ [])) (passed [])

-- the replica that a write of field i at level l goes to as well, or null where none is written.
-- "A write to a replica goes to its field of the same kind and number; a replica without that field is damage too":
-- count gives the number of fields of that kind.
unfoldable pub replica_for : Memory → (Memory → ℕ → ℕ) → ℕ → ℕ → ℕ → Tested ℕ
replica_for M count l v i = cond (not (copies_at l) || eqb (replica M v) null) (passed null) (do
  followed M (replica M v)
  check (ltb i (count M (replica M v))) 12
  passed (replica M v))

-- the word that a store of q at level l writes to the record itself, v, or to a global (v is null, Table 1's "Non").
-- Table 1(a) at level 5: the other copy where v is in tospace and q in fromspace. Table 1(b) at level 6: q forwarded.
unfoldable pub own_word : Heap → ℕ → ℕ → ℕ → Tested ℕ
own_word z l v q =
    cond (eqb l 6) (forward z.memory (to z) q)
    (cond (eqb l 5 && in_half (to z) v && in_half z.from q) (other_copy z.memory q)
    (passed q))

-- the word that the same store writes to the replica of v.
-- Level 4 and Table 1(b): q forwarded. Table 1(a): the other copy where q is in the half of v, else q.
unfoldable pub replica_word : Heap → ℕ → ℕ → ℕ → Tested ℕ
replica_word z l v q =
    cond (eqb l 5)
    (cond (in_half (half_of v) q) (other_copy z.memory q) (passed q))
    (forward z.memory (to z) q)

-- all that a store of q into reference field i of v writes
unfoldable pub store_writes : Heap → ℕ → ℕ → ℕ → ℕ → Tested Writes
store_writes z l v i q = do
  vs ← barrier_shades z l (word z.memory v (ref_field i)) q
  t ← replica_for z.memory refs l v i
  own ← own_word z l v q
  copy ← cond (eqb t null) (passed null) (replica_word z l v q)
  passed (record { first = get_or vs 0 null; second = get_or vs 1 null; own = own; replica = t; copy = copy })

-- all that a put of q into a global that holds old writes
unfoldable pub put_writes : Heap → ℕ → ℕ → ℕ → Tested Writes
put_writes z l old q = do
  vs ← barrier_shades z l old q
  own ← own_word z l null q
  passed (record { first = get_or vs 0 null; second = get_or vs 1 null; own = own; replica = null; copy = null })

-- the records that a store or a put shades, one after the other
unfoldable pub shade_both : Store → Writes → Store
shade_both s w = shade (shade s w.first) w.second

-- word j of v, then word k of the replica t where it is written
unfoldable pub put_both : Memory → ℕ → ℕ → ℕ → ℕ → ℕ → ℕ → Memory
put_both M v j x t k y = cond (eqb t null) (put M v j x) (put (put M v j x) t k y)

-- ---- same by level

-- Algorithm 9(a)
unfoldable pub pointer_eq : Heap → ℕ → ℕ → Tested Bool
pointer_eq z p q =
    cond (eqb p q) (passed true)
    (cond (in_half z.from p) (do followed z.memory p; passed (eqb (replica z.memory p) q))
    (cond (in_half z.from q) (do followed z.memory q; passed (eqb (replica z.memory q) p))
    (passed false)))

-- "Same compares words at 0 to 4, and by Algorithm 9(a) at 5 and 6"
unfoldable pub same_at : Heap → ℕ → ℕ → ℕ → Tested Bool
same_at z l p q = cond (leb l 4) (passed (eqb p q)) (pointer_eq z p q)

-- ---- allocation by level

-- half h has room for a record of r and p fields above its frontier
unfoldable pub room_in : Memory → ℕ → ℕ → ℕ → Bool
room_in M h r p = leb (frontier M h + size_of r p) (length (half M h))

-- "14 a half that this allocation writes lacks 3 + r + p words above its frontier", 4 + r + p by request [6]: the current half, from
-- level 3 on both
unfoldable pub allocation_room : Store → ℕ → ℕ → ℕ → Bool
allocation_room s l r p =
    cond (leb l 2) (room_in s.memory s.current r p)
    (room_in s.memory 0 r p && room_in s.memory 1 r p)

-- a record of zero fields with birth number b at the frontier of half h
unfoldable pub placed : Memory → ℕ → ℕ → ℕ → ℕ → ℕ → ℕ → Memory
placed M h r p c v b = append M h (new_record (shape_word r p) c v b (r + p))

-- request [6]: "counted from 1 over successful allocations"
abbrev pub next_birth : Store → ℕ
next_birth s = suc s.births

-- "Levels 0 and 1: white, current half. 2: black, current half; replica word 0 in all three.
-- 3 to 6: both halves, fromspace copy black, tospace copy white, replica words set"; request [6]: "both copies carry it unchanged"
unfoldable pub allocated : Store → ℕ → ℕ → ℕ → Memory
allocated s l r p =
    let M = s.memory in
    let b = next_birth s in
    cond (leb l 1) (placed M s.current r p white null b)
    (cond (leb l 2) (placed M s.current r p black null b)
    (placed (placed M (fromspace s) r p black (next_reference M (tospace s)) b)
    (tospace s) r p white (next_reference M (fromspace s)) b))

-- "3 to 5 give the fromspace reference, 6 the tospace one"
unfoldable pub allocated_reference : Store → ℕ → ℕ
allocated_reference s l =
    next_reference s.memory (cond (leb l 2) s.current (cond (leb l 5) (fromspace s) (tospace s)))
