-- Runs with directory calls: store calls of other sessions, collector steps and directory calls in any order; and the table
-- beside them.
use Rattle.std.specs.Prelude.{ℕ, Bool, true, not, ◌&&◌, List, [], ◌∷◌, ◌++◌, eqb}
use Rattle.rules.specs.Control.{Store}
use Rattle.rules.specs.Runs.{Call, Attach, Detach, SafePoint, Allocate, Load, StoreRef, StoreLinks, Read, Write, Move, Clear, SameAs, Get, Put, Stretch, Companion, Birth, Step, apply}
use Rattle.rules.specs.Tracking.{Beside, new_beside, beside}
use Rattle.directory_rules.specs.Table.{Request, Table, Given, table_next, table_given, table_after}
use Rattle.directory_rules.specs.Acts.{own_session, own_global, calls_made}
use Rattle.directory_rules.specs.Directory.{directory_call, fed_number, program_on}

-- a store call or collector step, or a directory call
pub data Item : Type 0 where
  call : Call → Item
  request : Request → Item

-- "Session 15 and global 31 are the directory's alone": other calls name neither
abbrev pub others : Call → Bool
others (Attach n share) = not (eqb n own_session)
others (Detach n) = not (eqb n own_session)
others (SafePoint n) = not (eqb n own_session)
others (Allocate n k r p) = not (eqb n own_session)
others (Load n to k i) = not (eqb n own_session)
others (StoreRef n k i from) = not (eqb n own_session)
others (StoreLinks n k count xs) = not (eqb n own_session)
others (Read n k i) = not (eqb n own_session)
others (Write n k i a) = not (eqb n own_session)
others (Move n to from) = not (eqb n own_session)
others (Clear n k) = not (eqb n own_session)
others (SameAs n a b) = not (eqb n own_session)
others (Get n to g) = not (eqb n own_session) && not (eqb g own_global)
others (Put n g from) = not (eqb n own_session) && not (eqb g own_global)
others (Stretch n k) = not (eqb n own_session)
others (Companion n k) = not (eqb n own_session)
others (Birth n k) = not (eqb n own_session)
others Step = true

abbrev pub allowed : List Item → Bool
allowed [] = true
allowed (call c ∷ xs) = others c && allowed xs
allowed (request q ∷ xs) = allowed xs

-- ---- on a store

abbrev pub after_item : Store → Item → Store
after_item s (call c) = (apply s c).store
after_item s (request q) = (directory_call s q).store

abbrev pub after_items : Store → List Item → Store
after_items s [] = s
after_items s (x ∷ xs) = after_items (after_item s x) xs

-- the store calls of the items, in order: those of a directory call are the ones that it makes
abbrev pub calls_of : Store → List Item → List Call
calls_of s [] = []
calls_of s (call c ∷ xs) = c ∷ calls_of (apply s c).store xs
calls_of s (request q ∷ xs) = calls_made s (program_on s q) ++ calls_of (directory_call s q).store xs

-- beside them the collector-free store, and which of its records each reference stands for
abbrev pub beside_items : Store → List Item → Beside
beside_items s xs = beside (new_beside s) (calls_of s xs)

-- what the directory calls answer, in order
abbrev pub directory_run : Store → List Item → List Given
directory_run s [] = []
directory_run s (call c ∷ xs) = directory_run (apply s c).store xs
directory_run s (request q ∷ xs) = (directory_call s q).given ∷ directory_run (directory_call s q).store xs

-- ---- on the table

-- the table is fed each request and the number of its refused allocation; no more
pub record Fed : Type 0 where
  pub request : Request
  pub refusal : ℕ

abbrev pub feeds_of : Store → List Item → List Fed
feeds_of s [] = []
feeds_of s (call c ∷ xs) = feeds_of (apply s c).store xs
feeds_of s (request q ∷ xs) = record { request = q; refusal = fed_number s q } ∷ feeds_of (directory_call s q).store xs

abbrev pub table_run : Table → List Fed → List Given
table_run t [] = []
table_run t (x ∷ xs) =
    table_given x.request (table_next t x.request x.refusal) ∷ table_run (table_after t (table_next t x.request x.refusal)) xs

-- the table after them
abbrev pub table_end : Table → List Fed → Table
table_end t [] = t
table_end t (x ∷ xs) = table_end (table_after t (table_next t x.request x.refusal)) xs
