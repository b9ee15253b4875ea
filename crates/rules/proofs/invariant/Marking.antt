-- The groups of the invariant that speak of marking: colours, the grey list, what is clean, the walk, and what is kept alive.
use Prim.Native.Nat.{ℕ, ◌+◌, ◌≤◌, ◌<◌}
use mathlib.Core.Path.{◌≡◌}
use mathlib.Core.Logic.{◌≢◌}
use mathlib.Core.Bool.{true}
use mathlib.Core.List.{List}
use lib.ListN.{get_or, length}
use Rattle.rules.specs.Memory.{Memory, null, word_of, white, grey, black, colour, replica, refs, plains, frontier, reference}
use Rattle.rules.specs.Phases.{other_half, absent}
use Rattle.rules.specs.Free.{Record, FreeSession}
use Rattle.rules.specs.declared.Session.{Session}
use Rattle.rules.proofs.memory.Walk.{Walk}
use Rattle.rules.proofs.memory.Total.{total}
use Rattle.rules.proofs.invariant.Stages.{st_rest, st_pre_mark1, st_root_mark, st_heap_mark, st_allocate, st_copy, st_stack_flip, st_reclaim}
use Rattle.rules.proofs.invariant.Words.{In, Clean, field, marks, reg, freg, rec_of}
use Rattle.rules.proofs.invariant.Protected.{scan, Covered}

-- ---- colours of the current half (cur) and of the other; place is the walk place
pub record Colours (M : Memory) (cur st place : ℕ) : Type 0 where
  pub at_rest : st ≡ st_rest → (v : ℕ) → In M cur v → colour M v ≡ white
  pub at_reclaim : st ≡ st_reclaim → (v : ℕ) → In M cur v → colour M v ≡ white
  pub none_black : st ≡ st_pre_mark1 → (v : ℕ) → In M cur v → colour M v ≢ black
  pub none_grey : st_heap_mark < st → st ≤ st_stack_flip → (v : ℕ) → In M cur v → colour M v ≢ grey
  pub replicas_white : st ≤ st_stack_flip → (v : ℕ) → In M (other_half cur) v → colour M v ≡ white
  pub paired_marked : st ≤ st_stack_flip → (v : ℕ) → In M cur v → replica M v ≢ null → colour M v ≢ white
  -- Allocate has given a replica to what is marked
  pub shelled_below : st ≡ st_allocate → (v : ℕ) → In M cur v → word_of v < place → colour M v ≢ white → replica M v ≢ null
  pub shelled : st_allocate < st → st ≤ st_stack_flip → (v : ℕ) → In M cur v → colour M v ≢ white → replica M v ≢ null

-- ---- the grey list: words ws, place head, end tail
pub record GreyList (M : Memory) (cur st : ℕ) (ws : List ℕ) (head tail : ℕ) : Type 0 where
  pub listed : st_rest < st → st ≤ st_heap_mark → (i : ℕ) → i < tail → In M cur (get_or ws i null)
  pub finished : st_rest < st → st ≤ st_heap_mark → (i : ℕ) → i < head → colour M (get_or ws i null) ≡ black
  pub unfinished : st_rest < st → st ≤ st_heap_mark → (i : ℕ) → head ≤ i → i < tail → colour M (get_or ws i null) ≡ grey
  pub found : st_rest < st → st ≤ st_heap_mark → (v : ℕ) → In M cur v → colour M v ≡ grey
      → (i : ℕ) × (head ≤ i) × (i < tail) × (get_or ws i null ≡ v)
  pub once : st_rest < st → st ≤ st_heap_mark → (i j : ℕ) → i < tail → j < tail → get_or ws i null ≡ get_or ws j null → i ≡ j
  -- a white record leaves room for its entry
  pub room : st_rest < st → st ≤ st_heap_mark → tail ≤ total M cur (marks M)

-- ---- what names no white record of the current half
pub record Cleaned (M : Memory) (cur st place wf : ℕ) (ws : List ℕ) (head tail : ℕ) (xs : List Session) (gs : List ℕ) : Type 0 where
  -- the fields of black records
  pub fields : st_pre_mark1 < st → st ≤ st_stack_flip → (v i : ℕ) → In M cur v → colour M v ≡ black → i < refs M v → Clean M cur (field M v i)
  -- the fields that HeapMark has passed in the oldest unfinished entry
  pub scanning : st ≡ st_heap_mark → head < tail → (i : ℕ) → i < wf → Clean M cur (field M (get_or ws head null) i)
  pub scanned-within : st ≡ st_heap_mark → head < tail → wf ≤ refs M (get_or ws head null)
  -- the globals that RootMark has passed; after it all
  pub globals-below : st ≡ st_root_mark → (g : ℕ) → g < place → Clean M cur (get_or gs g null)
  pub globals : st_root_mark < st → st ≤ st_stack_flip → (g : ℕ) → Clean M cur (get_or gs g null)
  -- what the registers of a scanned session name is grey-protected where it is white; after HeapMark no register names a white record
  pub scanned : st ≡ st_heap_mark → (n k : ℕ) → (get_or xs n absent).attached ≡ true → (get_or xs n absent).scanned ≡ true
      → Covered M cur (scan ws head tail wf) (reg xs n k)
  pub registers : st_heap_mark < st → st ≤ st_stack_flip → (n k : ℕ) → Clean M cur (reg xs n k)

-- ---- the walk
pub record Walking (M : Memory) (cur st place wf head tail : ℕ) : Type 0 where
  pub at_allocate : st ≡ st_allocate → Walk M cur place
  pub at_copy : st ≡ st_copy → Walk M cur place
  pub at_reclaim : st ≡ st_reclaim → Walk M cur place
  pub field-heap_mark : st ≡ st_heap_mark → head ≡ tail → wf ≡ 0
  pub field_copy : st ≡ st_copy → place < frontier M cur → wf ≤ refs M (reference cur place) + plains M (reference cur place)
  pub field-copy-end : st ≡ st_copy → frontier M cur ≤ place → wf ≡ 0
  -- Reclaim has cleared the replica words below the walk
  pub cleared : st ≡ st_reclaim → (v : ℕ) → In M cur v → word_of v < place → replica M v ≡ null

-- ---- what is kept alive: K is a set of places that roots and fields do not leave, with every place to come in it
pub record Kept (K : ℕ → Type 0) (M : Memory) (m : ℕ → ℕ) (cur st : ℕ) (rs : List Record) (ys : List FreeSession) (fgs : List ℕ) : Type 0 where
  pub to_come : (q : ℕ) → length rs < q → K q
  pub registers : (n k : ℕ) → freg ys n k ≢ null → K (freg ys n k)
  pub globals : (g : ℕ) → get_or fgs g null ≢ null → K (get_or fgs g null)
  pub fields : (q i : ℕ) → K q → get_or (rec_of rs q).refs i null ≢ null → K (get_or (rec_of rs q).refs i null)
  -- what marking has met
  pub marked : st_rest < st → st ≤ st_stack_flip → (v : ℕ) → In M cur v → colour M v ≢ white → K (m v)
  -- what a collection has left
  pub left-at_reclaim : st ≡ st_reclaim → (v : ℕ) → In M cur v → K (m v)
  pub left-at_rest : st ≡ st_rest → (v : ℕ) → In M cur v → K (m v)
