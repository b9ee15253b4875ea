-- Phases and levels: the collector step. Each phase has a rule for one unit of its work; the table at the end has them by number.
use Rattle.std.specs.Prelude.{ℕ, ◌+◌, ◌-◌, Bool, true, cond, not, ◌&&◌, List, [], ◌∷◌, leb, ltb, eqb, get_or, set, length}
use Rattle.rules.specs.Refusals.{Tested, passed, check, ◌>>=◌, ◌>>◌, Outcome, answered}
use Rattle.rules.specs.Memory.{Memory, half, frontier, with_frontier, null, reference, white, black, shape_at, colour_at, replica_at, new_record, word, put, colour, replica, birth_number, refs, plains, size, ref_field, plain_field, append, next_reference, followed, forward}
use Rattle.rules.specs.Control.{Store, with_memory, with_walk, with_list, with_globals, with_current, in_range, global_count}
use Rattle.rules.specs.Phases.{level_of, other_half, tospace, session_at, with_session, with_registers, with_mark, without_charges, all_at, lowest_unmarked, move_on}
use Rattle.rules.specs.Barriers.{heap_of, shading, shade, shading_all, shade_all}
use Rattle.rules.specs.Answers.{Phase}

-- ---- the walk over the records of the current half

-- the record at the walk place
unfoldable pub walked : Store → ℕ
walked s = reference s.current s.walk.place

-- the walk has not come to the frontier
unfoldable pub below : Store → Bool
below s = ltb s.walk.place (frontier s.memory s.current)

-- "A walk that goes on to its next record or list entry sets walk field to 0"
unfoldable pub past_record : Store → Memory → Store
past_record s M = with_walk (with_memory s M) (s.walk.place + size s.memory (walked s)) 0

-- "every attached session has the level"
unfoldable pub have_level : Store → Bool
have_level s = all_at (level_of s.phase) s.sessions

-- ---- the phases

-- 0 Rest: "the step empties the grey list and starts phase 1"
unfoldable pub rest : Store → Tested Store
rest s = passed (move_on (with_list s s.list.words 0 0))

-- 1, 2, 6, 8, 9: "the step moves on if every attached session has the level, else it changes nothing"
unfoldable pub handshake : Store → Tested Store
handshake s = passed (cond (have_level s) (move_on s) s)

-- 3 RootMark: "shade the next global's record"
unfoldable pub root_mark : Store → Tested Store
root_mark s = cond (ltb s.walk.place global_count)
    (do
      v ← shading (heap_of s) (get_or s.globals s.walk.place null)
      passed (with_walk (shade s v) (s.walk.place + 1) s.walk.field))
    (passed (move_on s))

-- 4 HeapMark, a listed record v: "shade its next reference field, or, none left, colour it black"
unfoldable pub scan_record : Store → ℕ → Tested Store
scan_record s v = do
  followed s.memory v
  cond (ltb s.walk.field (refs s.memory v))
      (do
        w ← shading (heap_of s) (word s.memory v (ref_field s.walk.field))
        passed (with_walk (shade s w) s.walk.place (s.walk.field + 1)))
      (passed (with_walk (with_list (with_memory s (put s.memory v colour_at black))
      s.list.words (s.list.head + 1) s.list.tail) s.walk.place 0))

-- "shade the registers of the lowest unscanned attached session in register order, marking it scanned before shading";
-- request [3]: "each other session is scanned once", so the mark stays whatever is shaded
unfoldable pub scan_session : Store → ℕ → Tested Store
scan_session s n = do
  vs ← shading_all (heap_of s) (session_at s n).registers
  passed (shade_all (with_session s n (with_mark (session_at s n) true)) vs)

-- "oldest listed record unfinished ..; List done ..; All scanned: move on"
unfoldable pub heap_mark : Store → Tested Store
heap_mark s =
    let n = lowest_unmarked s.sessions in
    cond (ltb s.list.head s.list.tail) (scan_record s (get_or s.list.words s.list.head null))
    (cond (ltb n (length s.sessions)) (scan_session s n)
    (passed (move_on s)))

-- 5 Allocate: "not white and without replica, it gets a shell at the other half's frontier
-- (same word 0, white, fields 0, replica words naming each other); otherwise pass over". Request [6]: the same birth number
unfoldable pub needs_shell : Memory → ℕ → Bool
needs_shell M v = not (eqb (colour M v) white) && eqb (replica M v) null

unfoldable pub shell_of : Memory → ℕ → List ℕ
shell_of M v = new_record (word M v shape_at) white v (birth_number M v) (refs M v + plains M v)

unfoldable pub with_shell : Memory → ℕ → ℕ → Memory
with_shell M other v = put (append M other (shell_of M v)) v replica_at (next_reference M other)

unfoldable pub allocate_shells : Store → Tested Store
allocate_shells s =
    let M = s.memory in
    let v = walked s in
    let other = other_half s.current in
    cond (not (below s)) (handshake s)
    (do
      followed M v
      cond (needs_shell M v)
          (do
            check (leb (frontier M other + size M v) (length (half M other))) 12
            passed (past_record s (with_shell M other v)))
          (passed (past_record s M)))

-- 7 Copy: "copy the next field, references forwarded"
unfoldable pub copy_ref : Store → ℕ → ℕ → ℕ → Tested Memory
copy_ref s v t i = do
  check (ltb i (refs s.memory t)) 12
  q ← forward s.memory (tospace s) (word s.memory v (ref_field i))
  passed (put s.memory t (ref_field i) q)

unfoldable pub copy_plain : Store → ℕ → ℕ → ℕ → Tested Memory
copy_plain s v t i = do
  check (ltb i (plains s.memory t)) 12
  passed (put s.memory t (plain_field (refs s.memory t) i) (word s.memory v (plain_field (refs s.memory v) i)))

unfoldable pub copy_field : Store → ℕ → ℕ → Tested Store
copy_field s v i = do
  followed s.memory (replica s.memory v)
  M ← cond (ltb i (refs s.memory v))
      (copy_ref s v (replica s.memory v) i)
      (copy_plain s v (replica s.memory v) (i - refs s.memory v))
  passed (with_walk (with_memory s M) s.walk.place (i + 1))

-- "at a record with a replica, copy the next field; past its last field, or without replica, go to the next record"
unfoldable pub copy : Store → Tested Store
copy s =
    let M = s.memory in
    let v = walked s in
    cond (not (below s)) (passed (move_on s))
    (do
      followed M v
      cond (not (eqb (replica M v) null) && ltb s.walk.field (refs M v + plains M v))
          (copy_field s v s.walk.field)
          (passed (past_record s M)))

-- 10 RootFlip: "forward the next global"
unfoldable pub root_flip : Store → Tested Store
root_flip s = cond (ltb s.walk.place global_count)
    (do
      q ← forward s.memory (tospace s) (get_or s.globals s.walk.place null)
      passed (with_walk (with_globals s (set s.globals s.walk.place q)) (s.walk.place + 1) s.walk.field))
    (passed (move_on s))

abbrev pub forward_all : Memory → ℕ → List ℕ → Tested (List ℕ)
forward_all M to [] = passed []
forward_all M to (v ∷ vs) = do
  w ← forward M to v
  ws ← forward_all M to vs
  passed (w ∷ ws)

-- 11 StackFlip: "forward the registers of the lowest attached session not marked, and mark it. Moving on to 12 makes tospace current"
unfoldable pub stack_flip : Store → Tested Store
stack_flip s =
    let n = lowest_unmarked s.sessions in
    cond (ltb n (length s.sessions))
    (do
      vs ← forward_all s.memory (tospace s) (session_at s n).registers
      passed (with_session s n (with_mark (with_registers (session_at s n) vs) true)))
    (passed (with_current (move_on s) (tospace s)))

-- 12 Reclaim: "if some attached session isn't at level 0, nothing. Else below the current frontier set the next record's
-- replica word to 0. At the frontier the other half's frontier becomes 0 and the step moves on". Request [7]: "charges return to 0 when Reclaim ends"
unfoldable pub reclaim : Store → Tested Store
reclaim s =
    let M = s.memory in
    let v = walked s in
    cond (not (have_level s)) (passed s)
    (cond (below s)
    (do followed M v; passed (past_record s (put M v replica_at null)))
    (passed (without_charges (move_on (with_memory s (with_frontier M (other_half s.current) 0))))))

-- the rule of each phase
abbrev pub units : List (Store → Tested Store)
units =
    rest ∷ handshake ∷ handshake ∷ root_mark ∷ heap_mark ∷ allocate_shells ∷ handshake ∷ copy ∷ handshake ∷ handshake
    ∷ root_flip ∷ stack_flip ∷ reclaim ∷ []

-- "A collector step does one unit of its phase .. The step answers the phase after it"
unfoldable pub step : Store → Tested (Outcome Store)
step s = do
  check (in_range s) 4
  after ← get_or units s.phase handshake s
  answered after (Phase after.phase)
