-- No call takes a number of the control record out of its range, on every store: a refused call keeps the store, and any other writes only what
-- its tests have made room for.
use Prim.Native.Nat.{ℕ, zero, suc, ◌+◌, ◌≤◌, ◌<◌, zero-le}
use mathlib.Core.Path.{◌≡◌, refl, sym, ap, ◌∙◌}
use mathlib.Core.Bool.{Bool, true, false, cond, not, ◌&&◌, ◌||◌, false≢true}
use mathlib.Core.List.{List, [], ◌∷◌}
use mathlib.Core.Logic.{◌≢◌}
use native.Mathlib.Omega.{arith}
use native.Mathlib.Nat.{le_refl}
use lib.Dec.{leb, ltb, eqb, leb→le}
use lib.ListN.{get_or, take, length, length-set, get_or-map}
use borrow.Author.Tests.{leb-true, ltb-true, le-leb}
use Rattle.rules.specs.declared.StorePlan.{StorePlan}
use Rattle.rules.specs.Refusals.{Tested, refused, passed, check, Outcome, settle}
use Rattle.rules.specs.Memory.{Memory, half, frontier, with_frontier, null, half_of, word_of, word, refs, plains, size, size_of, white, put, append, next_reference, ref_field, shape_at, most_count, most_shape, colour, black, replica, points_back, followed, followable, sound, forward}
use Rattle.rules.specs.Cycle.{at_root_mark, at_root_flip, at_reclaim, level_of, last_phase, phase_count}
use Rattle.rules.specs.Control.{Store, in_range, last_session, with_memory, with_walk, walk_limit, global_count, last_level, most_fields}
use Rattle.rules.specs.Phases.{session_at, register, absent, with_session, with_charge, with_mark, lowest_unmarked, other_half, fromspace, tospace, move_on, uncharged, without_charges}
use Rattle.rules.specs.Barriers.{Heap, heap_of, to_shade, list_room, shading, shade, shading_all, to_shade_all, listing, shade_all, shades_at, barrier_shades, store_writes, put_writes, shade_both, put_both, replica_for, own_word, replica_word, same_at, room_in, allocation_room, placed, allocated, next_birth}
use Rattle.rules.specs.Calls as calls
use Rattle.rules.specs.Collector as collector
use Rattle.rules.specs.Runs.{Call, Attach, Detach, SafePoint, Allocate, Load, StoreRef, StoreLinks, Read, Write, Move, Clear, SameAs, Get, Put, Stretch, Companion, Birth, Step, apply}
use Rattle.rules.specs.Claims.{RangeKept}
use Rattle.rules.specs.declared.Session.{Session}
use Rattle.rules.specs.declared.Link.{Link}
use Rattle.rules.specs.declared.Writes.{Writes}
use Rattle.rules.proofs.Ranges.{InRange, in_range_lem, in_range-tested, both}
use Rattle.rules.proofs.Shaded.{shaded, shade_either}
use Rattle.rules.proofs.memory.Cases.{eq_or, bool_or}
use Rattle.rules.proofs.memory.Encoding.{word-reference, other_below_2, other_differs, refs_bound, plains_bound}
use Rattle.rules.proofs.memory.Lists.{set-kept}
use Rattle.rules.proofs.memory.Halves.{half-frontier, frontier-same, frontier_other}
use Rattle.rules.proofs.memory.Put.{frontier-put, length-put}
use Rattle.rules.proofs.memory.Append.{frontier-here, frontier_there, length-append, length_record}
use Rattle.rules.proofs.invariant.Range.{frontier_range, half_length, range_walk, range_emptied, range_sessions, range_with, range_globals, range_births, range_current, range_moved}
use Rattle.rules.proofs.invariant.Stages.{at_each}
use Rattle.rules.proofs.relation.Stays.{shade_held}
use Rattle.rules.proofs.relation.Rows.{Ends, refuses, passes, then_row, map_row}

-- ---- rows of tests: where all pass, Q holds of what they pass with

abbrev Sure : {A : Type 0} → (A → Type 0) → Tested A → Type 0
Sure Q t = Ends (λ n. Unit {0}) Q t

abbrev Any : {A : Type 0} → A → Type 0
Any a = Unit {0}

abbrev Keeps : Tested Store → Type 0
Keeps t = Sure InRange t

tested : (b : Bool) (n : ℕ) → Sure (λ u. b ≡ true) (check b n)
tested true n = passes tt refl
tested false n = refuses n tt

any_row : {A : Type 0} (t : Tested A) → Sure Any t
any_row (refused n) = refuses n tt
any_row (passed a) = passes a tt

if_row : {A : Type 0} {Q : A → Type 0} (b : Bool) {m k : Tested A} → (b ≡ true → Sure Q m) → (b ≡ false → Sure Q k) → Sure Q (cond b m k)
if_row true f g = f refl
if_row false f g = g refl

-- ---- the memory: halves as long as before, frontiers within them

record Within (s : Store) (M : Memory) : Type 0 where
  lengths : (h : ℕ) → length (half M h) ≡ length (half s.memory h)
  fronts : (h : ℕ) → h < 2 → frontier M h ≤ s.lengths.half0

within-own : {s : Store} → InRange s → Within s s.memory
within-own k = record { lengths = λ h. refl; fronts = λ h l. frontier_range k h }

within-put : {s : Store} {M : Memory} (v j x : ℕ) → Within s M → Within s (put M v j x)
within-put {M = M} v j x w = record { lengths = λ h. length-put M v j x h ∙ w.lengths h; fronts = λ h l. rw (frontier-put M v j x h) (w.fronts h l) }

within-append : {s : Store} {M : Memory} (h : ℕ) (ws : List ℕ) → h < 2 → frontier M h + length ws ≤ s.lengths.half0 → Within s M → Within s (append M h ws)
within-append {M = M} h ws two room w = record {
  lengths = λ g. length-append M h ws g ∙ w.lengths g;
  fronts = λ g l. eq_or g h (λ e. rw (e, frontier-here M h ws) room) (λ d. rw (frontier_there M h ws g two l d) (w.fronts g l));
}

within-emptied : {s : Store} {M : Memory} (h : ℕ) → h < 2 → Within s M → Within s (with_frontier M h 0)
within-emptied {M = M} h two w = record {
  lengths = λ g. ap length (half-frontier M h 0 g) ∙ w.lengths g;
  fronts = λ g l. eq_or g h (λ e. rw (e, frontier-same M h 0) zero-le) (λ d. rw (frontier_other M h 0 g two l d) (w.fronts g l));
}

range_memory : {s : Store} {M : Memory} → InRange s → Within s M → InRange (with_memory s M)
unfolding half frontier session_at
range_memory k w = record {
  lent0 = k.lent0 ∙ sym (w.lengths 0);
  lent1 = k.lent1 ∙ sym (w.lengths 1);
  lent2 = k.lent2;
  least = k.least;
  most = k.most;
  equal = k.equal;
  enough = k.enough;
  half = k.half;
  front0 = w.fronts 0 (omega arith);
  front1 = w.fronts 1 (omega arith);
  phases = k.phases;
  places = k.places;
  fields = k.fields;
  begins = k.begins;
  ends = k.ends;
  levels = k.levels;
}

-- ---- sessions

range_session : {s : Store} (n : ℕ) (x : Session) → InRange s → x.level ≤ last_level → InRange (with_session s n x)
unfolding session_at with_session
range_session {s} n x k l =
    let each = set-kept absent (λ j y z. y.level ≤ last_level → z.level ≤ last_level) (λ j y h. h) s.sessions n x (λ h. l) in
    range_sessions k _ (λ j. each j (k.levels j))

range_register : {s : Store} (n i v : ℕ) → InRange s → InRange (calls.with_register s n i v)
unfolding calls.with_register
range_register {s} n i v k = range_session n _ k (k.levels n)

range_charged : {s : Store} (n w : ℕ) → InRange s → InRange (calls.charged s n w)
unfolding calls.charged
range_charged {s} n w k = range_session n _ k (k.levels n)

level_most : (ph : ℕ) → ph ≤ last_phase → level_of ph ≤ last_level
unfolding level_of
level_most ph l = leb→le _ _ (at_each phase_count (λ i. leb (level_of i) last_level) tt ph (omega arith))

uncharged_range : {s : Store} → InRange s → InRange (without_charges s)
unfolding without_charges uncharged session_at
uncharged_range {s} k = range_sessions k _ (λ n. rw (get_or-map (λ x. with_charge x 0) s.sessions n absent) (k.levels n))

-- ---- shading

range_shaded : {s : Store} (v : ℕ) → InRange s → s.list.tail + 1 ≤ length s.list.words → InRange (shaded s v)
unfolding session_at
range_shaded {s} v k room =
    range_with (range_memory k (within-put v _ _ (within-own k))) k.places k.fields
    (length-set s.list.words s.list.tail v) (omega (arith, k.begins)) room k.levels

range_shade : (s : Store) (v : ℕ) → InRange s → s.list.tail + cond (eqb v null) 0 1 ≤ length s.list.words → InRange (shade s v)
unfolding shade
range_shade s v k = pick (eqb v null)
  where
    pick : (b : Bool) → s.list.tail + cond b 0 1 ≤ length s.list.words → InRange (cond b s (shaded s v))
    pick true l = k
    pick false l = range_shaded v k l

shade-tail : (s : Store) (v : ℕ) → (shade s v).list.tail ≤ s.list.tail + 1
shade-tail s v = shade_either (λ t. t.list.tail ≤ s.list.tail + 1) s v (omega arith) (le_refl _)

shade-words : (s : Store) (v : ℕ) → length (shade s v).list.words ≡ length s.list.words
shade-words s v = shade_either (λ t. length t.list.words ≡ length s.list.words) s v refl (length-set s.list.words s.list.tail v)

one_room : (b : Bool) (x y n : ℕ) → x + suc y ≤ n → x + cond b 0 1 ≤ n
one_room true x y n l = omega arith
one_room false x y n l = omega arith

range_shade_all : (s : Store) (vs : List ℕ) → InRange s → s.list.tail + length vs ≤ length s.list.words → InRange (shade_all s vs)
range_shade_all s [] k l = k
range_shade_all s (v ∷ vs) k l =
    range_shade_all (shade s v) vs (range_shade s v k (one_room (eqb v null) _ (length vs) _ l))
    (let t = shade-tail s v in let w = shade-words s v in omega arith)

-- the first two of a list of records
range_shade_two : (s : Store) (vs : List ℕ) → InRange s → s.list.tail + length vs ≤ length s.list.words → InRange (shade (shade s (get_or vs 0 null)) (get_or vs 1 null))
unfolding shade
range_shade_two s [] k l = k
range_shade_two s (v ∷ []) k l = range_shade s v k (one_room (eqb v null) _ 0 _ l)
range_shade_two s (v ∷ w ∷ vs) k l = range_shade_all s (v ∷ w ∷ []) k (omega arith)

-- what a store or a put shades are the first two of records that the list has room for
record Listed (z : Heap) (w : Writes) : Type 0 where
  all : List ℕ
  room : z.tail + length all ≤ z.capacity
  first : w.first ≡ get_or all 0 null
  second : w.second ≡ get_or all 1 null

range_both : (s : Store) (w : Writes) → InRange s → Listed (heap_of s) w → InRange (shade_both s w)
unfolding shade_both
range_both s w k l = rw (l.first, l.second) (range_shade_two s l.all k l.room)

shading_row : (z : Heap) (v : ℕ) → Sure (λ w. z.tail + cond (eqb w null) 0 1 ≤ z.capacity) (shading z v)
unfolding shading list_room
shading_row z v = then_row _ (any_row (to_shade z.memory v)) (λ w u. then_row _ (tested _ 12) (λ t e. passes w (leb-true _ _ e)))

all_row : (z : Heap) (vs : List ℕ) → Sure (λ ws. z.tail + length ws ≤ z.capacity) (shading_all z vs)
unfolding shading_all listing list_room
all_row z vs = then_row _ (any_row (to_shade_all z.memory vs)) (λ w u. then_row _ (tested _ 12) (λ t e. passes w (leb-true _ _ e)))

shades_row : (z : Heap) (l old q : ℕ) → z.tail ≤ z.capacity → Sure (λ ws. z.tail + length ws ≤ z.capacity) (barrier_shades z l old q)
unfolding barrier_shades
shades_row z l old q r = if_row (shades_at l) (λ e. all_row z _) (λ e. passes [] (omega arith))

store_row : (z : Heap) (l v i q : ℕ) → z.tail ≤ z.capacity → Sure (Listed z) (store_writes z l v i q)
unfolding store_writes
store_row z l v i q r =
    then_row _ (shades_row z l _ q r) (λ vs h. then_row _ (any_row (replica_for z.memory refs l v i)) (λ t u. then_row _ (any_row (own_word z l v q))
    (λ own u. then_row _ (any_row (cond (eqb t null) (passed null) (replica_word z l v q)))
    (λ copy u. passes _ (record { all = vs; room = h; first = refl; second = refl })))))

put_row : (z : Heap) (l old q : ℕ) → z.tail ≤ z.capacity → Sure (Listed z) (put_writes z l old q)
unfolding put_writes
put_row z l old q r =
    then_row _ (shades_row z l old q r) (λ vs h. then_row _ (any_row (own_word z l null q)) (λ own u. passes _ (record { all = vs; room = h; first = refl; second = refl })))

list_room_lem : {s : Store} → InRange s → s.list.tail ≤ length s.list.words
list_room_lem k = omega (arith, k.ends, k.lent2)

-- ---- a record that was followed lies below its frontier

record Place (M : Memory) (v : ℕ) : Type 0 where
  small : refs M v ≤ most_count
  plain : plains M v ≤ most_count
  inside : word_of v + size M v ≤ frontier M (half_of v)

place_of : (M : Memory) (v : ℕ) → followable M v ≡ true → Place M v
unfolding followable sound refs plains
place_of M v e =
    let n = leb 2 v in
    let w = leb (word M v shape_at) most_shape in
    let c = leb (colour M v) black in
    let a = both (sound M v) (eqb (replica M v) null || points_back M (replica M v) v) e in
    let b = both (n && w && c) (leb (word_of v + size M v) (frontier M (half_of v))) a.0 in
    let d = both n w (both (n && w) c b.0).0 in
    record { small = refs_bound _ (leb-true _ _ d.1); plain = plains_bound _; inside = leb-true _ _ b.1 }

followed_row : (M : Memory) (v : ℕ) → Sure (λ u. Place M v) (followed M v)
unfolding followed
followed_row M v = map_row (λ u e. place_of M v e) (tested (followable M v) 12)

walked_inside : {s : Store} → InRange s → Place s.memory (collector.walked s) → s.walk.place + size s.memory (collector.walked s) ≤ s.lengths.half0
unfolding collector.walked
walked_inside {s} k p =
    let w = word-reference s.current s.walk.place (omega (arith, k.half)) in
    let f = frontier_range k (half_of (collector.walked s)) in
    let i = p.inside in
    omega arith

-- ---- the session calls

abbrev KeepsAll : Tested (Outcome Store) → Type 0
KeepsAll t = Sure (λ o. InRange o.store) t

module _ {s : Store} (k : InRange s) where
  attach_range : (n share : ℕ) → KeepsAll (calls.attach s n share)
  unfolding calls.attach
  attach_range n share =
      then_row _ (tested (in_range s) 4) (λ u e. then_row _ (tested (leb n last_session) 5) (λ u e. then_row _ (tested (not (session_at s n).attached) 7)
      (λ u e. passes _ (range_session n _ k (level_most s.phase k.phases)))))

  detach_range : (n : ℕ) → KeepsAll (calls.detach s n)
  unfolding calls.detach
  detach_range n = then_row _ (any_row (calls.session_of s n)) (λ x e. passes _ (range_session n _ k zero-le))

  safe_point_range : (n : ℕ) → KeepsAll (calls.safe_point s n)
  unfolding calls.safe_point
  safe_point_range n = then_row _ (any_row (calls.session_of s n)) (λ x e. passes _ (range_session n _ k (level_most s.phase k.phases)))

  load_range : (n to i f : ℕ) → KeepsAll (calls.load s n to i f)
  unfolding calls.load
  load_range n to i f = then_row _ (any_row (calls.load_plan s n to i f)) (λ w e. passes _ (range_register n to w k))

  both_within : {t : Store} {M : Memory} (v j x r l y : ℕ) → Within t M → Within t (put_both M v j x r l y)
  unfolding put_both
  both_within {t} {M} v j x r l y w = pick (eqb r null)
    where
      pick : (b : Bool) → Within t (cond b (put M v j x) (put (put M v j x) r l y))
      pick true = within-put v j x w
      pick false = within-put r l y (within-put v j x w)

  commit_range : (i : ℕ) (q : StorePlan) → Listed (heap_of s) q.writes → InRange (calls.store_commit s i q)
  unfolding calls.store_commit
  commit_range i q l = let h = range_both s q.writes k l in range_memory h (both_within _ _ _ _ _ _ (within-own h))

  store_range : (n r i from : ℕ) → KeepsAll (calls.store s n r i from)
  unfolding calls.store calls.store_plan
  store_range n r i from =
      then_row _
      (then_row _ (any_row (calls.record_of s n r from)) (λ x u. then_row {R = λ q. Listed (heap_of s) q.writes} _ (tested (ltb i (refs s.memory x.own)) 13)
      (λ u h. then_row _ (store_row (heap_of s) x.level x.own i x.other (list_room_lem k)) (λ w l. passes _ l))))
      (λ q l. passes _ (commit_range i q l))

  read_range : (n r i : ℕ) → KeepsAll (calls.read s n r i)
  unfolding calls.read
  read_range n r i = then_row _ (any_row (calls.record_of s n r r)) (λ x u. then_row _ (tested (ltb i (plains s.memory x.own)) 13) (λ u h. passes _ k))

  birth_range : (n r : ℕ) → KeepsAll (calls.birth s n r)
  unfolding calls.birth
  birth_range n r = then_row _ (any_row (calls.record_of s n r r)) (λ x u. passes _ k)

  write_range : (n r i a : ℕ) → KeepsAll (calls.write s n r i a)
  unfolding calls.write calls.write_commit
  write_range n r i a = then_row _ (any_row (calls.write_plan s n r i)) (λ q u. passes _ (range_memory k (both_within _ _ _ _ _ _ (within-own k))))

  move_range : (n to from : ℕ) → KeepsAll (calls.move s n to from)
  unfolding calls.move
  move_range n to from = then_row _ (any_row (calls.session_of s n)) (λ x u. then_row _ (tested (calls.is_register to && calls.is_register from) 8) (λ u h. passes _ (range_register n to _ k)))

  clear_range : (n i : ℕ) → KeepsAll (calls.clear s n i)
  unfolding calls.clear
  clear_range n i = then_row _ (any_row (calls.session_of s n)) (λ x u. then_row _ (tested (calls.is_register i) 8) (λ u h. passes _ (range_register n i _ k)))

  same_range : (n a b : ℕ) → KeepsAll (calls.same s n a b)
  unfolding calls.same
  same_range n a b = then_row _ (any_row (calls.session_of s n)) (λ x u. then_row _ (tested (calls.is_register a && calls.is_register b) 8)
      (λ u h. then_row _ (any_row (same_at (heap_of s) x.level (register x a) (register x b))) (λ y h. passes _ k)))

  get_range : (n to g : ℕ) → KeepsAll (calls.get s n to g)
  unfolding calls.get
  get_range n to g =
      then_row _ (any_row (calls.session_of s n)) (λ x u. then_row _ (tested (calls.is_register to) 8)
      (λ u h. then_row _ (tested (calls.is_global g) 9) (λ u h. passes _ (range_register n to _ k))))

  put_range : (n g from : ℕ) → KeepsAll (calls.put s n g from)
  unfolding calls.put calls.put_plan calls.put_commit
  put_range n g from =
      then_row _
      (then_row _ (any_row (calls.session_of s n)) (λ x u. then_row {R = Listed (heap_of s)} _ (tested (calls.is_register from) 8) (λ u h. then_row _ (tested (calls.is_global g) 9)
      (λ u h. put_row (heap_of s) x.level (get_or s.globals g null) (register x from) (list_room_lem k)))))
      (λ w l. passes _ (range_globals (range_both s w k l) _))

  -- a new record in a half with room for it
  placed-within : {M : Memory} (h r p c v b : ℕ) → h < 2 → frontier M h + size_of r p ≤ s.lengths.half0 → Within s M → Within s (placed M h r p c v b)
  unfolding placed
  placed-within {M} h r p c v b two room w = within-append h _ two (rw length_record (omega arith)) w

  -- ---- allocation

  room_in_lem : (h r p : ℕ) → h < 2 → room_in s.memory h r p ≡ true → frontier s.memory h + size_of r p ≤ s.lengths.half0
  unfolding room_in
  room_in_lem h r p two e =
      let l : frontier s.memory h + size_of r p ≤ length (half s.memory h) = leb-true _ _ e in
      omega (arith, l, half_length k h two)

  current-below_2 : s.current < 2
  current-below_2 = omega (arith, k.half)

  from-below_2 : fromspace s < 2
  unfolding fromspace
  from-below_2 = pick (eqb s.phase at_reclaim)
    where
      pick : (b : Bool) → cond b (other_half s.current) s.current < 2
      pick true = other_below_2 s.current
      pick false = current-below_2

  any_room : (h r p : ℕ) → h < 2 → (room_in s.memory 0 r p && room_in s.memory 1 r p) ≡ true → frontier s.memory h + size_of r p ≤ s.lengths.half0
  any_room zero r p two e = room_in_lem 0 r p two (both (room_in s.memory 0 r p) (room_in s.memory 1 r p) e).0
  any_room (suc zero) r p two e = room_in_lem 1 r p two (both (room_in s.memory 0 r p) (room_in s.memory 1 r p) e).1
  any_room (suc (suc h)) r p two e = absurd (omega arith)

  placed_there : (M : Memory) (h g r p c v b : ℕ) → h < 2 → g < 2 → g ≢ h → frontier (placed M h r p c v b) g ≡ frontier M g
  unfolding placed
  placed_there M h g r p c v b two l d = frontier_there M h _ g two l d

  -- by level: in the current half, or in both
  chosen_within : (r p : ℕ) (one two : Bool) → (one ≡ true → two ≡ true)
      → cond two (room_in s.memory s.current r p) (room_in s.memory 0 r p && room_in s.memory 1 r p) ≡ true
      → Within s (cond one (placed s.memory s.current r p white null (next_birth s))
      (cond two (placed s.memory s.current r p black null (next_birth s))
      (placed (placed s.memory (fromspace s) r p black (next_reference s.memory (tospace s)) (next_birth s))
      (tospace s) r p white (next_reference s.memory (fromspace s)) (next_birth s))))
  unfolding tospace
  chosen_within r p true true i e = placed-within s.current r p _ _ _ current-below_2 (room_in_lem s.current r p current-below_2 e) (within-own k)
  chosen_within r p false true i e = placed-within s.current r p _ _ _ current-below_2 (room_in_lem s.current r p current-below_2 e) (within-own k)
  chosen_within r p true false i e = absurd (false≢true (i refl))
  chosen_within r p false false i e =
      let f = fromspace s in
      let t = other_half (fromspace s) in
      placed-within t r p _ _ _ (other_below_2 f)
      (rw (placed_there s.memory f t r p _ _ _ from-below_2 (other_below_2 f) (other_differs f from-below_2)) (any_room t r p (other_below_2 f) e))
      (placed-within f r p _ _ _ from-below_2 (any_room f r p from-below_2 e) (within-own k))

  allocated-within : (l r p : ℕ) → allocation_room s l r p ≡ true → Within s (allocated s l r p)
  unfolding allocated allocation_room
  allocated-within l r p e = chosen_within r p (leb l 1) (leb l 2) (λ o. le-leb l 2 (let z = leb-true l 1 o in omega arith)) e

  allocate_range : (n i r p : ℕ) → KeepsAll (calls.allocate s n i r p)
  unfolding calls.allocate
  allocate_range n i r p =
      then_row _ (any_row (calls.session_of s n)) (λ x u. then_row _ (tested (calls.is_register i) 8) (λ u e. then_row _ (tested (calls.is_shape r p) 10)
      (λ u e. then_row _ (tested (calls.within_share x r p) 17) (λ u e. then_row _ (tested (allocation_room s x.level r p) 14)
      (λ u room. then_row _ (tested (calls.number_left s.births) 16)
      (λ u e. passes _ (range_charged n _ (range_register n i _ (range_births (range_memory k (allocated-within x.level r p room)) _)))))))))

-- ---- the collector step

limit_32 : (ph n : ℕ) → (eqb ph at_root_mark || eqb ph at_root_flip) ≡ true → walk_limit ph n ≡ global_count
unfolding walk_limit
limit_32 ph n e = rw e

limit_half : (ph n : ℕ) → (eqb ph at_root_mark || eqb ph at_root_flip) ≡ false → walk_limit ph n ≡ n
unfolding walk_limit
limit_half ph n e = rw e

abbrev AtRoots : Store → Type 0
AtRoots s = (eqb s.phase at_root_mark || eqb s.phase at_root_flip) ≡ true

abbrev AtRecords : Store → Type 0
AtRecords s = (eqb s.phase at_root_mark || eqb s.phase at_root_flip) ≡ false

module _ {s : Store} (k : InRange s) where
  shade-walk : (v p i : ℕ) → s.list.tail + cond (eqb v null) 0 1 ≤ length s.list.words → p ≤ walk_limit s.phase s.lengths.half0 → i ≤ most_fields
      → InRange (with_walk (shade s v) p i)
  shade-walk v p i room a b =
      let h = shade_held s v in
      range_walk (range_shade s v k room) p i (rw (ap (λ x. x.0) h, ap (λ x. x.1) h) a) b

  rest_range : Keeps (collector.rest s)
  unfolding collector.rest
  rest_range = passes _ (range_moved (range_emptied k))

  handshake_range : Keeps (collector.handshake s)
  unfolding collector.handshake
  handshake_range = passes _ (pick (collector.have_level s))
    where
      pick : (b : Bool) → InRange (cond b (move_on s) s)
      pick true = range_moved k
      pick false = k

  root_mark_range : AtRoots s → Keeps (collector.root_mark s)
  unfolding collector.root_mark
  root_mark_range at = if_row (ltb s.walk.place global_count)
      (λ e. then_row _ (shading_row (heap_of s) (get_or s.globals s.walk.place null))
      (λ v room. passes _ (shade-walk v _ _ room (rw (limit_32 s.phase s.lengths.half0 at) (let z : s.walk.place < global_count = ltb-true _ _ e in omega arith)) k.fields)))
      (λ e. passes _ (range_moved k))

  scan_record_range : (v : ℕ) → s.list.head < s.list.tail → Keeps (collector.scan_record s v)
  unfolding collector.scan_record session_at
  scan_record_range v more = then_row _ (followed_row s.memory v) (λ u q. if_row (ltb s.walk.field (refs s.memory v))
      (λ e. then_row _ (shading_row (heap_of s) (word s.memory v (ref_field s.walk.field)))
      (λ w room. passes _ (shade-walk w _ _ room k.places (let z : s.walk.field < refs s.memory v = ltb-true _ _ e in omega (arith, z, q.small)))))
      (λ e. passes _ (range_with (range_memory k (within-put v _ _ (within-own k))) k.places zero-le refl (omega arith) (list_room_lem k) k.levels)))

  scan_session_range : (n : ℕ) → Keeps (collector.scan_session s n)
  unfolding collector.scan_session with_session
  scan_session_range n = then_row _ (all_row (heap_of s) (session_at s n).registers)
      (λ vs room. passes _ (range_shade_all (with_session s n (with_mark (session_at s n) true)) vs (range_session n _ k (k.levels n)) room))

  heap_mark_range : Keeps (collector.heap_mark s)
  unfolding collector.heap_mark
  heap_mark_range = if_row (ltb s.list.head s.list.tail) (λ e. scan_record_range _ (ltb-true _ _ e))
      (λ e. if_row (ltb (lowest_unmarked s.sessions) (length s.sessions)) (λ e. scan_session_range _) (λ e. passes _ (range_moved k)))

  past_range : {M : Memory} → AtRecords s → Place s.memory (collector.walked s) → Within s M → InRange (collector.past_record s M)
  unfolding collector.past_record
  past_range at q w =
      range_walk (range_memory k w) _ _ (rw (limit_half s.phase s.lengths.half0 at) (walked_inside k q)) zero-le

  shell_within : (v : ℕ) → frontier s.memory (other_half s.current) + size s.memory v ≤ length (half s.memory (other_half s.current))
      → Within s (collector.with_shell s.memory (other_half s.current) v)
  unfolding collector.with_shell collector.shell_of size
  shell_within v room =
      let h = other_half s.current in
      within-put v _ _ (within-append h _ (other_below_2 s.current) (rw length_record (omega (arith, room, half_length k h (other_below_2 s.current)))) (within-own k))

  shells_range : AtRecords s → Keeps (collector.allocate_shells s)
  unfolding collector.allocate_shells
  shells_range at = if_row (not (collector.below s)) (λ e. handshake_range)
      (λ e. then_row _ (followed_row s.memory (collector.walked s)) (λ u q. if_row (collector.needs_shell s.memory (collector.walked s))
      (λ e. then_row _
      (tested (leb (frontier s.memory (other_half s.current) + size s.memory (collector.walked s)) (length (half s.memory (other_half s.current)))) 12)
      (λ u room. passes _ (past_range at q (shell_within _ (leb-true _ _ room)))))
      (λ e. passes _ (past_range at q (within-own k)))))

  copy_ref_range : (v t i : ℕ) → Sure (Within s) (collector.copy_ref s v t i)
  unfolding collector.copy_ref
  copy_ref_range v t i = then_row _ (tested (ltb i (refs s.memory t)) 12)
      (λ u e. then_row _ (any_row (forward s.memory (tospace s) (word s.memory v (ref_field i)))) (λ q u. passes _ (within-put t _ _ (within-own k))))

  copy_plain_range : (v t i : ℕ) → Sure (Within s) (collector.copy_plain s v t i)
  unfolding collector.copy_plain
  copy_plain_range v t i = then_row _ (tested (ltb i (plains s.memory t)) 12) (λ u e. passes _ (within-put t _ _ (within-own k)))

  copy_field_range : (v i : ℕ) → i + 1 ≤ most_fields → Keeps (collector.copy_field s v i)
  unfolding collector.copy_field
  copy_field_range v i l = then_row _ (any_row (followed s.memory (replica s.memory v)))
      (λ u e. then_row _ (if_row (ltb i (refs s.memory v)) (λ e. copy_ref_range v _ i) (λ e. copy_plain_range v _ _))
      (λ M w. passes _ (range_walk (range_memory k w) _ _ k.places l)))

  copy_range : AtRecords s → Keeps (collector.copy s)
  unfolding collector.copy
  copy_range at = if_row (not (collector.below s)) (λ e. passes _ (range_moved k))
      (λ e. then_row _ (followed_row s.memory (collector.walked s))
      (λ u q. let v = collector.walked s in
      if_row (not (eqb (replica s.memory v) null) && ltb s.walk.field (refs s.memory v + plains s.memory v))
      (λ e. copy_field_range v s.walk.field
      (let z : s.walk.field < refs s.memory v + plains s.memory v = ltb-true _ _ (both (not (eqb (replica s.memory v) null)) (ltb s.walk.field (refs s.memory v + plains s.memory v)) e).1 in
      omega (arith, z, q.small, q.plain)))
      (λ e. passes _ (past_range at q (within-own k)))))

  root_flip_range : AtRoots s → Keeps (collector.root_flip s)
  unfolding collector.root_flip
  root_flip_range at = if_row (ltb s.walk.place global_count)
      (λ e. then_row _ (any_row (forward s.memory (tospace s) (get_or s.globals s.walk.place null)))
      (λ q u. passes _ (range_walk (range_globals k _) _ _ (rw (limit_32 s.phase s.lengths.half0 at) (let z : s.walk.place < global_count = ltb-true _ _ e in omega arith)) k.fields)))
      (λ e. passes _ (range_moved k))

  tospace-most : tospace s ≤ 1
  unfolding tospace
  tospace-most = let l = other_below_2 (fromspace s) in omega arith

  stack_flip_range : Keeps (collector.stack_flip s)
  unfolding collector.stack_flip
  stack_flip_range = if_row (ltb (lowest_unmarked s.sessions) (length s.sessions))
      (λ e. then_row _ (any_row (collector.forward_all s.memory (tospace s) (session_at s (lowest_unmarked s.sessions)).registers))
      (λ vs u. passes _ (range_session _ _ k (k.levels _))))
      (λ e. passes _ (range_current (range_moved k) (tospace s) tospace-most))

  reclaim_range : AtRecords s → Keeps (collector.reclaim s)
  unfolding collector.reclaim
  reclaim_range at = bool_or (collector.have_level s)
      (λ a. rw a (if_row (collector.below s)
      (λ e. then_row _ (followed_row s.memory (collector.walked s)) (λ u q. passes _ (past_range at q (within-put _ _ _ (within-own k)))))
      (λ e. passes _ (uncharged_range (range_moved (range_memory k (within-emptied _ (other_below_2 s.current) (within-own k))))))))
      (λ a. rw a (passes _ k))

  unit_range : (ph : ℕ) → s.phase ≡ ph → Keeps (get_or collector.units ph collector.handshake s)
  unit_range zero e = rest_range
  unit_range (suc zero) e = handshake_range
  unit_range (suc (suc zero)) e = handshake_range
  unit_range (suc (suc (suc zero))) e = root_mark_range (rw e)
  unit_range (suc (suc (suc (suc zero)))) e = heap_mark_range
  unit_range (suc (suc (suc (suc (suc zero))))) e = shells_range (rw e)
  unit_range (suc (suc (suc (suc (suc (suc zero)))))) e = handshake_range
  unit_range (suc (suc (suc (suc (suc (suc (suc zero))))))) e = copy_range (rw e)
  unit_range (suc (suc (suc (suc (suc (suc (suc (suc zero)))))))) e = handshake_range
  unit_range (suc (suc (suc (suc (suc (suc (suc (suc (suc zero))))))))) e = handshake_range
  unit_range (suc (suc (suc (suc (suc (suc (suc (suc (suc (suc zero)))))))))) e = root_flip_range (rw e)
  unit_range (suc (suc (suc (suc (suc (suc (suc (suc (suc (suc (suc zero))))))))))) e = stack_flip_range
  unit_range (suc (suc (suc (suc (suc (suc (suc (suc (suc (suc (suc (suc zero)))))))))))) e = reclaim_range (rw e)
  unit_range (suc (suc (suc (suc (suc (suc (suc (suc (suc (suc (suc (suc (suc ph))))))))))))) e = handshake_range

  step_range : KeepsAll (collector.step s)
  unfolding collector.step
  step_range = then_row _ (tested (in_range s) 4) (λ u e. then_row _ (unit_range s.phase refl) (λ t h. passes _ h))

-- ---- several links

each_range : {s : Store} → InRange s → (n r : ℕ) (xs : List Link) → KeepsAll (calls.store_each s n r xs)
each_range k n r [] = passes _ k
each_range k n r (x ∷ xs) = then_row _ (store_range k n r x.field x.from) (λ o h. each_range h n r xs)

links_range : {s : Store} → InRange s → (n r count : ℕ) (xs : List Link) → KeepsAll (calls.store_links s n r count xs)
unfolding calls.store_links
links_range {s} k n r count xs = then_row _ (any_row (calls.session_of s n)) (λ x u. then_row _ (tested (calls.is_count count) 10) (λ u e. each_range k n r (take count xs)))

-- ---- any call

settled : {s : Store} {t : Tested (Outcome Store)} → InRange s → KeepsAll t → InRange (settle s t).store
settled k (refuses n a) = k
settled k (passes o h) = h

-- where the ranges hold they hold after any call
pub call_range : {s : Store} → InRange s → (c : Call) → InRange (apply s c).store
call_range k (Attach n share) = settled k (attach_range k n share)
call_range k (Detach n) = settled k (detach_range k n)
call_range k (SafePoint n) = settled k (safe_point_range k n)
call_range k (Allocate n i r p) = settled k (allocate_range k n i r p)
call_range k (Load n to i f) = settled k (load_range k n to i f)
call_range k (StoreRef n r i from) = settled k (store_range k n r i from)
call_range k (StoreLinks n r count xs) = settled k (links_range k n r count xs)
call_range k (Read n r i) = settled k (read_range k n r i)
call_range k (Write n r i a) = settled k (write_range k n r i a)
call_range k (Move n to from) = settled k (move_range k n to from)
call_range k (Clear n i) = settled k (clear_range k n i)
call_range k (SameAs n a b) = settled k (same_range k n a b)
call_range k (Get n to g) = settled k (get_range k n to g)
call_range k (Put n g from) = settled k (put_range k n g from)
call_range k (Stretch n r) = k
call_range k (Companion n r) = k
call_range k (Birth n r) = settled k (birth_range k n r)
call_range k Step = settled k (step_range k)

pub range_kept : RangeKept
unfolding RangeKept
range_kept s c e = in_range-tested (call_range (in_range_lem s e) c)
