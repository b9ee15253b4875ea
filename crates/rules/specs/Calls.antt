-- Session calls: for each the tests in the table's order, then what it writes. Arguments in the script's order.
-- Where the two are used apart, a call is a plan, all its tests with what is to be written, and a commit, the store with that written.
use Rattle.std.specs.Prelude.{ℕ, ◌+◌, Bool, not, ◌&&◌, List, [], ◌∷◌, leb, ltb, eqb, get_or, set, take, drop}
use Rattle.rules.specs.Refusals.{Tested, passed, check, ◌>>=◌, ◌>>◌, Outcome, done, answered}
use Rattle.rules.specs.Memory.{half, null, half_of, word_of, header, most_count, size_of, word, birth_number, refs, plains, ref_field, plain_field, followed}
use Rattle.rules.specs.Cycle.{at_heap_mark}
use Rattle.rules.specs.Control.{Store, with_memory, with_globals, with_births, in_range, most_births, last_session, last_register, last_global}
use Rattle.rules.specs.Phases.{level_of, session_at, with_session, register, with_registers, with_level, with_charge, attached_at, detached}
use Rattle.rules.specs.Barriers.{heap_of, shade_both, replica_for, store_writes, put_writes, put_both, same_at, allocation_room, next_birth, allocated, allocated_reference}
use Rattle.rules.specs.declared.Session.{Session}
use Rattle.rules.specs.declared.Operands.{Operands}
use Rattle.rules.specs.declared.Writes.{Writes}
use Rattle.rules.specs.declared.Link.{Link}
use Rattle.rules.specs.declared.StorePlan.{StorePlan}
use Rattle.rules.specs.declared.WritePlan.{WritePlan}
use Rattle.rules.specs.Answers.{Word, Same}

-- ---- tests that calls share

-- 4, 5, 6: the attached session of a call
unfoldable pub session_of : Store → ℕ → Tested Session
session_of s n = do
  check (in_range s) 4
  check (leb n last_session) 5
  check (session_at s n).attached 6
  passed (session_at s n)

-- 8: a register number
abbrev pub is_register : ℕ → Bool
is_register k = leb k last_register

-- 9: a global's number
abbrev pub is_global : ℕ → Bool
is_global g = leb g last_global

-- 10: "each 0 to 255"
abbrev pub is_shape : ℕ → ℕ → Bool
is_shape r p = leb r most_count && leb p most_count

-- request [8]: "up to eight links", and 10: "A count above eight"
abbrev pub most_links : ℕ
most_links = 8

unfoldable pub is_count : ℕ → Bool
is_count count = leb count most_links

-- 17: "refuses an allocation that would pass the share", by what is charged to its session; numbers are compared, no sum is cut to 32 bits
unfoldable pub within_share : Session → ℕ → ℕ → Bool
within_share x r p = leb (x.charge + size_of r p) x.share

-- 16: "refuses allocation once 4,294,967,295 numbers are used", by how many are
unfoldable pub number_left : ℕ → Bool
number_left used = ltb used most_births

-- 4, 5, 6, 8, 11: what a call of session n on the record in register k works with; o is its other register argument, or
-- k again where it has none
unfoldable pub operands_of : Store → ℕ → ℕ → ℕ → Tested Operands
operands_of s n k o = do
  x ← session_of s n
  check (is_register k && is_register o) 8
  check (not (eqb (register x k) null)) 11
  passed (record { level = x.level; own = register x k; other = register x o })

-- 4, 5, 6, 8, 11, 12: the same of a record that can be followed
unfoldable pub record_of : Store → ℕ → ℕ → ℕ → Tested Operands
record_of s n k o = do
  x ← operands_of s n k o
  followed s.memory x.own
  passed x

-- the store with register k of session n set to v
unfoldable pub with_register : Store → ℕ → ℕ → ℕ → Store
with_register s n k v = with_session s n (with_registers (session_at s n) (set (session_at s n).registers k v))

-- request [7]: the store with w more words charged to session number n
unfoldable pub charged : Store → ℕ → ℕ → Store
charged s n w = with_session s n (with_charge (session_at s n) ((session_at s n).charge + w))

-- ---- the calls

-- "level becomes the phase's level, registers null, unscanned"; request [3]: "a session attached in phase 4 counts as scanned"; request [7]:
-- "Attach and the directory's open now take a share in words"; the charge stays "across detach and attach"
unfoldable pub attach : Store → ℕ → ℕ → Tested (Outcome Store)
attach s n share = do
  check (in_range s) 4
  check (leb n last_session) 5
  check (not (session_at s n).attached) 7
  done (with_session s n (attached_at (session_at s n) share (level_of s.phase) (eqb s.phase at_heap_mark)))

-- "registers null, level 0"; share and charge stay
unfoldable pub detach : Store → ℕ → Tested (Outcome Store)
detach s n = do
  x ← session_of s n
  done (with_session s n (detached x))

-- "takes the phase's level"
unfoldable pub safe_point : Store → ℕ → Tested (Outcome Store)
safe_point s n = do
  x ← session_of s n
  done (with_session s n (with_level x (level_of s.phase)))

-- "register gets a record of zero fields"; request [7]: "Allocated words, each record's once, are charged to the session number"
unfoldable pub allocate : Store → ℕ → ℕ → ℕ → ℕ → Tested (Outcome Store)
allocate s n k r p = do
  x ← session_of s n
  check (is_register k) 8
  check (is_shape r p) 10
  check (within_share x r p) 17
  check (allocation_room s x.level r p) 14
  check (number_left s.births) 16
  let t = with_births (with_memory s (allocated s x.level r p)) (next_birth s)
  done (charged (with_register t n k (allocated_reference s x.level)) n (size_of r p))

-- the word that the register of a load gets
unfoldable pub load_plan : Store → ℕ → ℕ → ℕ → ℕ → Tested ℕ
load_plan s n to k i = do
  x ← record_of s n k to
  check (ltb i (refs s.memory x.own)) 13
  passed (word s.memory x.own (ref_field i))

unfoldable pub load : Store → ℕ → ℕ → ℕ → ℕ → Tested (Outcome Store)
load s n to k i = do
  w ← load_plan s n to k i
  done (with_register s n to w)

-- the tests of a store
unfoldable pub store_plan : Store → ℕ → ℕ → ℕ → ℕ → Tested StorePlan
store_plan s n k i from = do
  x ← record_of s n k from
  check (ltb i (refs s.memory x.own)) 13
  w ← store_writes (heap_of s) x.level x.own i x.other
  passed (record { into = x.own; writes = w })

-- the reference that is overwritten shaded, then the stored one, then the field of the record and of its replica
unfoldable pub store_commit : Store → ℕ → StorePlan → Store
store_commit s i q =
    let w = q.writes in
    let shaded = shade_both s w in
    with_memory shaded (put_both shaded.memory q.into (ref_field i) w.own w.replica (ref_field i) w.copy)

unfoldable pub store : Store → ℕ → ℕ → ℕ → ℕ → Tested (Outcome Store)
store s n k i from = do
  q ← store_plan s n k i from
  done (store_commit s i q)

-- request [8]: "single stores in list order", each on the store that those before it left; the first that is refused ends them
abbrev pub store_each : Store → ℕ → ℕ → List Link → Tested (Outcome Store)
store_each s n k [] = done s
store_each s n k (x ∷ xs) = do
  o ← store s n k x.field x.from
  store_each o.store n k xs

-- "One call takes field numbers and registers in pairs and stores all or none". "A count above eight is refused with 10 right after the session
-- tests; a count of 0 succeeds there, storing nothing"
unfoldable pub store_links : Store → ℕ → ℕ → ℕ → List Link → Tested (Outcome Store)
store_links s n k count xs = do
  x ← session_of s n
  check (is_count count) 10
  store_each s n k (take count xs)

unfoldable pub read : Store → ℕ → ℕ → ℕ → Tested (Outcome Store)
read s n k i = do
  x ← record_of s n k k
  check (ltb i (plains s.memory x.own)) 13
  answered s (Word (word s.memory x.own (plain_field (refs s.memory x.own) i)))

-- request [6]: "answers the number of a register's record, with read's refusals up to 12"
unfoldable pub birth : Store → ℕ → ℕ → Tested (Outcome Store)
birth s n k = do
  x ← record_of s n k k
  answered s (Word (birth_number s.memory x.own))

-- the tests of a write
unfoldable pub write_plan : Store → ℕ → ℕ → ℕ → Tested WritePlan
write_plan s n k i = do
  x ← record_of s n k k
  check (ltb i (plains s.memory x.own)) 13
  t ← replica_for s.memory plains x.level x.own i
  passed (record { own = x.own; refs = refs s.memory x.own; replica = t })

-- "plain writes at 4 to 6 go to both"
unfoldable pub write_commit : Store → ℕ → ℕ → WritePlan → Store
write_commit s i a q =
    with_memory s
    (put_both s.memory q.own (plain_field q.refs i) a q.replica (plain_field (refs s.memory q.replica) i) a)

unfoldable pub write : Store → ℕ → ℕ → ℕ → ℕ → Tested (Outcome Store)
write s n k i a = do
  q ← write_plan s n k i
  done (write_commit s i a q)

unfoldable pub move : Store → ℕ → ℕ → ℕ → Tested (Outcome Store)
move s n to from = do
  x ← session_of s n
  check (is_register to && is_register from) 8
  done (with_register s n to (register x from))

unfoldable pub clear : Store → ℕ → ℕ → Tested (Outcome Store)
clear s n k = do
  x ← session_of s n
  check (is_register k) 8
  done (with_register s n k null)

-- "same (yes or no)"
unfoldable pub same : Store → ℕ → ℕ → ℕ → Tested (Outcome Store)
same s n a b = do
  x ← session_of s n
  check (is_register a && is_register b) 8
  y ← same_at (heap_of s) x.level (register x a) (register x b)
  answered s (Same y)

-- "get and put a global"
unfoldable pub get : Store → ℕ → ℕ → ℕ → Tested (Outcome Store)
get s n to g = do
  x ← session_of s n
  check (is_register to) 8
  check (is_global g) 9
  done (with_register s n to (get_or s.globals g null))

-- the tests of a put, and what it writes
unfoldable pub put_plan : Store → ℕ → ℕ → ℕ → Tested Writes
put_plan s n g from = do
  x ← session_of s n
  check (is_register from) 8
  check (is_global g) 9
  put_writes (heap_of s) x.level (get_or s.globals g null) (register x from)

-- the reference that is overwritten shaded, then the stored one, then the global
unfoldable pub put_commit : Store → ℕ → Writes → Store
put_commit s g w = with_globals (shade_both s w) (set s.globals g w.own)

unfoldable pub put : Store → ℕ → ℕ → ℕ → Tested (Outcome Store)
put s n g from = do
  w ← put_plan s n g from
  done (put_commit s g w)

-- "hands back the plain fields of a record as the stretch of whichever half holds it"; its companion has the same tests
unfoldable pub stretch : Store → ℕ → ℕ → Tested (List ℕ)
stretch s n k = do
  x ← record_of s n k k
  let v = x.own
  passed (take (plains s.memory v) (drop (word_of v + header + refs s.memory v) (half s.memory (half_of v))))
