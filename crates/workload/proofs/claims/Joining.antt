-- The pieces of a load: what was put into buffers and what is still to come make up what was to come; and each buffer with room for the
-- longest entry takes one at the least, so that all of it comes.
use Prim.Native.Nat.{ℕ, zero, suc, ◌+◌, ◌-◌, ◌≤◌, ◌<◌}
use mathlib.Core.Path.{◌≡◌, refl, ap}
use mathlib.Core.Bool.{Bool, true, false, cond, true≢false}
use mathlib.Core.List.{List, [], ◌∷◌, ◌++◌, append_assoc, append-nil}
use native.Mathlib.Omega.{arith}
use native.Mathlib.Nat.{zero-add}
use borrow.Author.Tests.{le-leb, leb-true, ltb-true, ltb-false}
use lib.Dec.{leb}
use lib.ListN.{length, take}
use lib.Seq.{sets, length-sets}
use Rattle.rules.proofs.Ranges.{both}
use Rattle.rules.proofs.memory.Cases.{bool_or}
use Rattle.rules.proofs.memory.Sets.{take-sets}
use Rattle.workload.specs.Load.{draw, entry_bytes, entries_from, load_of, count_in, accepted, generate}
use Rattle.workload.specs.Pieces.{opening, coming, any_left, started, longest_entry, Fill, fill_of, entries_into, filled}
use Rattle.workload.specs.Claims.{rest_after, NothingLost, roomy, PiecesJoined, PiecesEnd}
use Rattle.workload.specs.declared.pieces.Rest.{Rest}
use Rattle.workload.specs.declared.pieces.Piece.{Piece}
use Rattle.workload.proofs.Sizes.{entry-short}
use Rattle.workload.proofs.Filling.{short-opening}

-- ---- nothing is lost

-- the bytes of a buffer up to the end of what was put into it, and those still to come
abbrev whole : Fill → List ℕ
whole f = take f.end f.out ++ coming f.rest

entries-whole : (n x : ℕ) (out : List ℕ) (end : ℕ) → end ≤ length out → whole (entries_into n x out end) ≡ take end out ++ entries_from n x
entries-whole zero x out end inside = refl
entries-whole (suc n) x out end inside =
    bool_or
    (leb (end + longest_entry) (length out))
    (λ room.
    let fits : end + length (entry_bytes (draw x)) ≤ length out = omega (arith, leb-true (end + longest_entry) (length out) room, entry-short x) in
    rw (room, entries-whole n (draw x).next (sets out end (entry_bytes (draw x))) (end + length (entry_bytes (draw x))) (rw length-sets fits), take-sets out (entry_bytes (draw x)) end fits, append_assoc))
    (λ full. rw full)

fill_whole : (r : Rest) (out : List ℕ) → whole (filled r out) ≡ coming r
unfolding filled
fill_whole r out =
    bool_or
    (leb longest_entry (length out))
    (λ room.
    let fits : length (opening r.version) ≤ length out = omega (arith, leb-true longest_entry (length out) room, short-opening r.version) in
    let first : take (length (opening r.version)) (sets out 0 (opening r.version)) ≡ opening r.version =
    rw zero-add at (take-sets out (opening r.version) 0 (rw zero-add fits)) in
    rw (room, entries-whole r.left r.value (sets out 0 (opening r.version)) (length (opening r.version)) (rw length-sets fits), first))
    (λ short. rw short)

pub nothing_lost : NothingLost
unfolding NothingLost
nothing_lost r [] = refl
nothing_lost r (out ∷ outs) = rw (append_assoc, nothing_lost (filled r out).rest outs, fill_whole r out)

-- ---- all of it comes

-- how many pieces of bytes are still to come at the most: the version byte, and the entries
abbrev pub items : Rest → ℕ
items r = cond r.version 1 0 + r.left

-- no entry comes back
entries_fewer : (n x : ℕ) (out : List ℕ) (end : ℕ) → items (entries_into n x out end).rest ≤ n
entries_fewer zero x out end = omega arith
entries_fewer (suc n) x out end =
    bool_or
    (leb (end + longest_entry) (length out))
    (λ room. rw room (omega (arith, entries_fewer n (draw x).next (sets out end (entry_bytes (draw x))) (end + length (entry_bytes (draw x))))))
    (λ full. rw full (omega arith))

-- the version byte or an entry goes in, if any is left
first_in : (version : Bool) (left x : ℕ) (out : List ℕ) → longest_entry ≤ length out →
    items (entries_into left x (sets out 0 (opening version)) (length (opening version))).rest ≤ cond version 1 0 + left - 1
first_in true left x out room = omega (arith, entries_fewer left x (sets out 0 (opening true)) 1)
first_in false zero x out room = omega arith
first_in false (suc left) x out room =
    rw (le-leb longest_entry (length out) room)
    (omega (arith, entries_fewer left (draw x).next (sets out 0 (entry_bytes (draw x))) (0 + length (entry_bytes (draw x)))))

pub fill_fewer : (r : Rest) (out : List ℕ) → longest_entry ≤ length out → items (filled r out).rest ≤ items r - 1
unfolding filled
fill_fewer r out room = rw (le-leb longest_entry (length out) room) (first_in r.version r.left r.value out room)

-- so there is less to come after each piece
some_left : (r : Rest) → any_left r ≡ true → 0 < items r
unfolding any_left
some_left r more =
    bool_or
    r.version
    (λ yes. rw yes (omega arith))
    (λ no. rw no (omega (arith, ltb-true 0 r.left (rw no at more))))

pub piece_fewer : (r : Rest) (out : List ℕ) {p : Piece} {after : List ℕ} → fill_of p after ≡ filled r out → longest_entry ≤ length out
    → any_left r ≡ true → items p.rest < items r
piece_fewer r out e room more =
    let rest = ap (λ (f : Fill). f.rest) e in
    rw rest (omega (arith, fill_fewer r out room, some_left r more))

-- a buffer for each item is enough
all_come : (r : Rest) (outs : List (List ℕ)) → roomy outs ≡ true → items r ≤ length outs → items (rest_after r outs) ≡ 0
all_come r [] rooms few = omega arith
all_come r (out ∷ outs) rooms few =
    let z = both (leb longest_entry (length out)) (roomy outs) rooms in
    let fewer = fill_fewer r out (leb-true longest_entry (length out) z.0) in
    all_come (filled r out).rest outs z.1 (omega (arith, fewer))

started_items : (bs : List ℕ) → items (started bs) ≤ count_in bs + 1
unfolding started
started_items bs = bool_or (accepted bs) (λ e. rw e (omega arith)) (λ e. rw e (omega arith))

pub pieces_end : PiecesEnd
unfolding PiecesEnd
pieces_end bs outs rooms enough =
    bool_or
    (any_left (rest_after (started bs) outs))
    (λ more. absurd (omega (arith, some_left (rest_after (started bs) outs) more, all_come (started bs) outs rooms (omega (arith, started_items bs)))))
    (λ none. none)

-- ---- the whole load

none_coming : (r : Rest) → any_left r ≡ false → coming r ≡ []
unfolding any_left
none_coming r none =
    bool_or
    r.version
    (λ yes. absurd (true≢false (rw yes at none)))
    (λ no. let left : r.left ≡ 0 = omega (arith, ltb-false 0 r.left (rw no at none)) in rw (no, left))

pub start_coming : (bs : List ℕ) → coming (started bs) ≡ generate bs
unfolding started generate load_of
start_coming bs = bool_or (accepted bs) (λ e. rw e) (λ e. rw e)

pub pieces_joined : PiecesJoined
unfolding PiecesJoined NothingLost
pieces_joined bs outs none =
    rw (none_coming (rest_after (started bs) outs) none, append-nil, start_coming bs) at (nothing_lost (started bs) outs)
