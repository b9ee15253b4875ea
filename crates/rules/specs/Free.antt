-- The collector-free store: it keeps records in a list and never moves them. Its tests stand in the same order as the store's;
-- it has no 4 and no 12.
use Rattle.std.specs.Prelude.{ℕ, suc, ◌-◌, Bool, true, false, cond, not, ◌&&◌, List, [], ◌∷◌, ◌++◌, leb, ltb, eqb, get_or, set, length, replicate, take}
use Rattle.rules.specs.Refusals.{Tested, passed, check, ◌>>=◌, ◌>>◌, Outcome, Reply, answer, words, settle, words_or, done_or, done, answered}
use Rattle.rules.specs.Memory.{null}
use Rattle.rules.specs.Control.{global_count, session_count, register_count, last_session}
use Rattle.rules.specs.Calls.{is_register, is_global, is_shape, is_count, number_left}
use Rattle.rules.specs.Runs.{Call, Attach, Detach, SafePoint, Allocate, Load, StoreRef, StoreLinks, Read, Write, Move, Clear, SameAs, Get, Put, Stretch, Companion, Birth, Step, is_allocation, Fed, fitted, over_share, no_room}
use Rattle.rules.specs.declared.Link.{Link}
use Rattle.rules.specs.Answers.{Done, Word, Same}

-- ---- what it keeps

-- "a list of records, each with its reference and plain fields"
pub record Record : Type 0 where
  pub refs : List ℕ
  pub plains : List ℕ

pub record FreeSession : Type 0 where
  pub attached : Bool
  pub registers : List ℕ

-- "which sessions are attached, their registers, the globals and a list of records".
-- "A register, global or reference field holds null or a record's place in the list, from 1"
pub record Free : Type 0 where
  pub sessions : List FreeSession
  pub globals : List ℕ
  pub records : List Record

-- "At first nobody is attached, all is null and the list is empty"
abbrev pub free_nobody : FreeSession
free_nobody = record { attached = false; registers = replicate register_count null }

unfoldable pub new_free : Free
new_free =
    record {
      sessions = replicate session_count free_nobody;
      globals = replicate global_count null;
      records = [];
    }

-- the record at a place, from 1
abbrev pub no_record : Record
no_record = record { refs = []; plains = [] }

unfoldable pub record_at : Free → ℕ → Record
record_at f q = get_or f.records (q - 1) no_record

unfoldable pub with_record : Free → ℕ → Record → Free
with_record f q x = record { sessions = f.sessions; globals = f.globals; records = set f.records (q - 1) x }

abbrev pub free_absent : FreeSession
free_absent = record { attached = false; registers = [] }

unfoldable pub free_session : Free → ℕ → FreeSession
free_session f n = get_or f.sessions n free_absent

unfoldable pub free_register : FreeSession → ℕ → ℕ
free_register x k = get_or x.registers k null

-- a session with one part changed
abbrev pub with_free_registers : FreeSession → List ℕ → FreeSession
with_free_registers x qs = record { attached = x.attached; registers = qs }

abbrev pub with_free_attached : FreeSession → Bool → FreeSession
with_free_attached x b = record { attached = b; registers = x.registers }

abbrev pub with_free_session : Free → ℕ → FreeSession → Free
with_free_session f n x = record { sessions = set f.sessions n x; globals = f.globals; records = f.records }

unfoldable pub with_free_register : Free → ℕ → ℕ → ℕ → Free
with_free_register f n k q =
    with_free_session f n (with_free_registers (free_session f n) (set (free_session f n).registers k q))

-- ---- tests that calls share

unfoldable pub free_session_of : Free → ℕ → Tested FreeSession
free_session_of f n = do
  check (leb n last_session) 5
  check (free_session f n).attached 6
  passed (free_session f n)

-- 11: the place of the record worked on
unfoldable pub free_record_in : FreeSession → ℕ → Tested ℕ
free_record_in x k = do
  check (not (eqb (free_register x k) null)) 11
  passed (free_register x k)

-- ---- the calls

unfoldable pub free_attach : Free → ℕ → Tested (Outcome Free)
free_attach f n = do
  check (leb n last_session) 5
  check (not (free_session f n).attached) 7
  done (with_free_session f n (with_free_attached free_nobody true))

unfoldable pub free_detach : Free → ℕ → Tested (Outcome Free)
free_detach f n = do
  x ← free_session_of f n
  done (with_free_session f n free_nobody)

-- what is fed says whether the share was enough, and whether there was room
abbrev pub fed_share : Fed → Bool
fed_share fitted = true
fed_share over_share = false
fed_share no_room = true

abbrev pub fed_room : Fed → Bool
fed_room fitted = true
fed_room over_share = true
fed_room no_room = false

-- the store with a new record of r nulls and p zeros, whose place is in register k of session n
abbrev pub free_allocated : Free → ℕ → ℕ → ℕ → ℕ → Free
free_allocated f n k r p =
    with_free_register
    (record {
      sessions = f.sessions;
      globals = f.globals;
      records = f.records ++ (record { refs = replicate r null; plains = replicate p 0 } ∷ []);
    })
    n k (suc (length f.records))

-- "Allocate answers 14 where that was fed, changing nothing; else it appends a record of r nulls and p zeros and puts its place in the
-- register". Request [6]: "16, after 14, refuses allocation once 4,294,967,295 numbers are used, there too". Request [7]: "the collector-free store
-- is fed them likewise, answers 17 there and changes nothing"
unfoldable pub free_allocate : Free → ℕ → ℕ → ℕ → ℕ → Fed → Tested (Outcome Free)
free_allocate f n k r p fed = do
  x ← free_session_of f n
  check (is_register k) 8
  check (is_shape r p) 10
  check (fed_share fed) 17
  check (fed_room fed) 14
  check (number_left (length f.records)) 16
  done (free_allocated f n k r p)

unfoldable pub free_load : Free → ℕ → ℕ → ℕ → ℕ → Tested (Outcome Free)
free_load f n to k i = do
  x ← free_session_of f n
  check (is_register to && is_register k) 8
  q ← free_record_in x k
  check (ltb i (length (record_at f q).refs)) 13
  done (with_free_register f n to (get_or (record_at f q).refs i null))

unfoldable pub free_store : Free → ℕ → ℕ → ℕ → ℕ → Tested (Outcome Free)
free_store f n k i from = do
  x ← free_session_of f n
  check (is_register k && is_register from) 8
  q ← free_record_in x k
  check (ltb i (length (record_at f q).refs)) 13
  done (with_record f q (record { refs = set (record_at f q).refs i (free_register x from); plains = (record_at f q).plains }))

-- request [8]
abbrev pub free_store_each : Free → ℕ → ℕ → List Link → Tested (Outcome Free)
free_store_each f n k [] = done f
free_store_each f n k (x ∷ xs) = do
  o ← free_store f n k x.field x.from
  free_store_each o.store n k xs

unfoldable pub free_store_links : Free → ℕ → ℕ → ℕ → List Link → Tested (Outcome Free)
free_store_links f n k count xs = do
  x ← free_session_of f n
  check (is_count count) 10
  free_store_each f n k (take count xs)

unfoldable pub free_read : Free → ℕ → ℕ → ℕ → Tested (Outcome Free)
free_read f n k i = do
  x ← free_session_of f n
  check (is_register k) 8
  q ← free_record_in x k
  check (ltb i (length (record_at f q).plains)) 13
  answered f (Word (get_or (record_at f q).plains i 0))

-- request [6]: "in the collector-free store a record's number is its place in the list"
unfoldable pub free_birth : Free → ℕ → ℕ → Tested (Outcome Free)
free_birth f n k = do
  x ← free_session_of f n
  check (is_register k) 8
  q ← free_record_in x k
  answered f (Word q)

unfoldable pub free_write : Free → ℕ → ℕ → ℕ → ℕ → Tested (Outcome Free)
free_write f n k i a = do
  x ← free_session_of f n
  check (is_register k) 8
  q ← free_record_in x k
  check (ltb i (length (record_at f q).plains)) 13
  done (with_record f q (record { refs = (record_at f q).refs; plains = set (record_at f q).plains i a }))

unfoldable pub free_move : Free → ℕ → ℕ → ℕ → Tested (Outcome Free)
free_move f n to from = do
  x ← free_session_of f n
  check (is_register to && is_register from) 8
  done (with_free_register f n to (free_register x from))

unfoldable pub free_clear : Free → ℕ → ℕ → Tested (Outcome Free)
free_clear f n k = do
  x ← free_session_of f n
  check (is_register k) 8
  done (with_free_register f n k null)

-- "Same says yes where both registers hold the same"
unfoldable pub free_same : Free → ℕ → ℕ → ℕ → Tested (Outcome Free)
free_same f n a b = do
  x ← free_session_of f n
  check (is_register a && is_register b) 8
  answered f (Same (eqb (free_register x a) (free_register x b)))

unfoldable pub free_get : Free → ℕ → ℕ → ℕ → Tested (Outcome Free)
free_get f n to g = do
  x ← free_session_of f n
  check (is_register to) 8
  check (is_global g) 9
  done (with_free_register f n to (get_or f.globals g null))

unfoldable pub free_put : Free → ℕ → ℕ → ℕ → Tested (Outcome Free)
free_put f n g from = do
  x ← free_session_of f n
  check (is_register from) 8
  check (is_global g) 9
  done (record { sessions = f.sessions; globals = set f.globals g (free_register x from); records = f.records })

-- "The stretch has the plain fields in order"
unfoldable pub free_stretch : Free → ℕ → ℕ → Tested (List ℕ)
free_stretch f n k = do
  x ← free_session_of f n
  check (is_register k) 8
  q ← free_record_in x k
  passed (record_at f q).plains

-- ---- a run of it

-- what a call leaves; safe points and steps are not fed to it
abbrev pub free_apply : Free → Call → Fed → Outcome Free
free_apply f (Attach n share) fed = settle f (free_attach f n)
free_apply f (Detach n) fed = settle f (free_detach f n)
free_apply f (SafePoint n) fed = record { store = f; reply = answer Done }
free_apply f (Allocate n k r p) fed = settle f (free_allocate f n k r p fed)
free_apply f (Load n to k i) fed = settle f (free_load f n to k i)
free_apply f (StoreRef n k i from) fed = settle f (free_store f n k i from)
free_apply f (StoreLinks n k count xs) fed = settle f (free_store_links f n k count xs)
free_apply f (Read n k i) fed = settle f (free_read f n k i)
free_apply f (Write n k i a) fed = settle f (free_write f n k i a)
free_apply f (Move n to from) fed = settle f (free_move f n to from)
free_apply f (Clear n k) fed = settle f (free_clear f n k)
free_apply f (SameAs n a b) fed = settle f (free_same f n a b)
free_apply f (Get n to g) fed = settle f (free_get f n to g)
free_apply f (Put n g from) fed = settle f (free_put f n g from)
free_apply f (Stretch n k) fed = record { store = f; reply = words (words_or (free_stretch f n k)) }
free_apply f (Companion n k) fed = record { store = f; reply = answer (done_or (free_stretch f n k)) }
free_apply f (Birth n k) fed = settle f (free_birth f n k)
free_apply f Step fed = record { store = f; reply = answer Done }

-- what is fed next, and what is fed after it
abbrev pub next_fed : List Fed → Fed
next_fed [] = fitted
next_fed (x ∷ xs) = x

abbrev pub later_fed : List Fed → List Fed
later_fed [] = []
later_fed (x ∷ xs) = xs

-- "The collector-free store is fed a run's calls and arguments in order, safe points and collector steps left out,
-- and for each allocation whether the run answered it with 14; no more"; request [7]: or with 17
abbrev pub free_run : Free → List Call → List Fed → List Reply
free_run f [] fs = []
free_run f (c ∷ cs) fs =
    (free_apply f c (next_fed fs)).reply
    ∷ free_run (free_apply f c (next_fed fs)).store cs (cond (is_allocation c) (later_fed fs) fs)
