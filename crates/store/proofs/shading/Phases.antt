-- The phases that mark: what shading a record asks for, and the registers of a session tested and counted.
use Prim.Native.Nat.{ℕ, ◌+◌, ◌≤◌, ◌<◌}
use mathlib.Core.Path.{◌≡◌, ◌∙◌, sym, refl, ap}
use mathlib.Core.Bool.{true}
use mathlib.Core.List.{List, [], ◌∷◌, map}
use native.Mathlib.Omega.{arith}
use lib.ListN.{length, length-map, set}
use borrow.Author.Tests.{le-leb, lt-leb}
use Rattle.rules.specs.Refusals.{Tested, refused, passed, ◌>>=◌}
use Rattle.rules.specs.Memory.{Memory, half, word, colour, colour_at}
use Rattle.rules.specs.Control.{Store}
use Rattle.rules.specs.Phases.{session_at, with_session, with_mark}
use Rattle.rules.specs.Barriers.{heap_of, list_room, shading, to_shade_all, listing, shading_all, shade_all}
use Rattle.rules.specs.Collector.{scan_session}
use Rattle.rules.proofs.Shaded.{shade_all-sessions}
use Rattle.heap.specs.View.{memory, Inside}
use Rattle.heap.proofs.Soundness.{header_inside}
use Rattle.heap.proofs.Passed.{bind_passed, same-passed}
use Rattle.heap.proofs.Plans.{shading-known}
use Rattle.store.specs.Marking.{white_count, whites_among}
use Rattle.store.proofs.shading.Counting.{tested-whites}

-- a record that is to be shaded has its colour word, and the list room for it
pub shadable : {w : ℕ} (s : Store) (q : ℕ) → s.memory.frontier0 ≤ length s.memory.half0 → s.memory.frontier1 ≤ length s.memory.half1
    → passed w ≡ shading (heap_of s) q → (w ≡ 0 → ⊥) → Inside s.memory.half0 s.memory.half1 w colour_at × (s.list.tail < length s.list.words)
shadable {w} s q a b e n =
    let k = shading-known (heap_of s) q w (sym e) n in
    (header_inside s.memory.half0 s.memory.half1 s.memory.frontier0 s.memory.frontier1 w k.sound a b colour_at (omega arith), omega (arith, k.room))

-- ---- HeapMark: the registers of a session

-- a record's colour doesn't depend on the frontiers
pub whites_any : (h0 h1 : List ℕ) (f0 f1 : ℕ) (vs : List ℕ) → whites_among (memory h0 h1 0 0) vs ≡ whites_among (memory h0 h1 f0 f1) vs
unfolding colour word half
whites_any h0 h1 f0 f1 [] = refl
whites_any h0 h1 f0 f1 (v ∷ vs) = rw (whites_any h0 h1 f0 f1 vs)

uncounted : (t : Tested (List ℕ)) → refused 12 ≡ (t >>= λ ws. passed (length ws)) → t ≡ refused 12
uncounted (refused n) e = ap (λ (t : Tested ℕ). t >>= λ m. passed []) (sym e)
uncounted (passed ws) e = cc

-- what passed the tests and was counted
pub counted : {m : ℕ} (M : Memory) (vs : List ℕ) → passed m ≡ white_count M vs → (to_shade_all M vs ≡ passed (whites_among M vs)) × (length (whites_among M vs) ≡ m)
counted M vs e =
    let a = bind_passed (to_shade_all M vs) (λ (ws : List ℕ). passed (length ws)) (sym e) in
    let b = tested-whites M vs a.0 a.1 in
    (a.1 ∙ ap passed b, rw (← b) (same-passed a.2))

-- session n, by what the first pass over its registers answered
module _ (s : Store) (n : ℕ) where
  pub scan_damage : refused 12 ≡ white_count s.memory (session_at s n).registers → scan_session s n ≡ refused 12
  unfolding scan_session shading_all
  scan_damage e = rw (uncounted (to_shade_all s.memory (session_at s n).registers) e)

  module _ {m : ℕ} (e : passed m ≡ white_count s.memory (session_at s n).registers) where
    pub scan_full : length s.list.words < s.list.tail + m → scan_session s n ≡ refused 12
    unfolding scan_session shading_all listing list_room
    scan_full h = let c = counted _ _ e in rw (c.0, c.1, lt-leb (s.list.tail + m) (length s.list.words) h)

    pub scan_shaded : {t : Store} → s.list.tail + m ≤ length s.list.words → t ≡ shade_all s (whites_among s.memory (session_at s n).registers)
        → scan_session s n ≡ passed (with_session t n (with_mark (session_at s n) true))
    unfolding scan_session shading_all listing list_room with_session
    scan_shaded h f =
        let c = counted _ _ e in
        let vs = whites_among s.memory (session_at s n).registers in
        let q = ap (λ (t : Store). t.sessions) (shade_all-sessions vs s s.sessions) in
        rw (c.0, c.1, le-leb (s.list.tail + m) (length s.list.words) h, f, q)
        (ap passed (shade_all-sessions vs s (set s.sessions n (with_mark (session_at s n) true))))

-- the length of an array of structs
pub unmapped : (A B : Type 0) (f : A → B) (l : List A) (n : ℕ) → length (map f l) ≡ n → length l ≡ n
unmapped A B f l n e = sym (length-map l f) ∙ e
