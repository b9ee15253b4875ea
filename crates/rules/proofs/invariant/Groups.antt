-- The groups of the invariant that speak of values: records and their places, fields, roots, halves, pairs and their agreement.
-- M is the memory, m the tracked place of each reference, cur the current half, st the stage of the phase.
use Prim.Native.Nat.{ℕ, ◌+◌, ◌≤◌, ◌<◌}
use mathlib.Core.Path.{◌≡◌}
use mathlib.Core.Logic.{◌≢◌, ◌⊎◌}
use mathlib.Core.Bool.{true, false}
use mathlib.Core.List.{List, [], ◌∷◌}
use lib.ListN.{get_or, length}
use Rattle.rules.specs.Memory.{Memory, null, half_of, word_of, refs, plains, replica, birth_number, frontier}
use Rattle.rules.specs.Control.{global_count, session_count, register_count}
use Rattle.rules.specs.Phases.{other_half, level_of, absent}
use Rattle.rules.specs.Free.{Record, FreeSession, free_absent}
use Rattle.rules.specs.declared.Session.{Session}
use Rattle.rules.proofs.memory.Records.{Start}
use Rattle.rules.proofs.memory.Total.{total}
use Rattle.rules.proofs.invariant.Stages.{st_allocate, st_copy, st_pre_flip2, st_root_flip, st_stack_flip}
use Rattle.rules.proofs.invariant.Words.{In, Ok, Names, field, plain_of, fwd, copied, reg, freg, rec_of}

-- ---- identity: every record of either half stands for one of the collector-free records; two of one half for different ones
pub record Identity (M : Memory) (m : ℕ → ℕ) (rs : List Record) : Type 0 where
  pub null-place : m null ≡ 0
  pub low : (v : ℕ) → Start M v → 0 < m v
  pub high : (v : ℕ) → Start M v → m v ≤ length rs
  -- its birth number is that place
  pub born : (v : ℕ) → Start M v → birth_number M v ≡ m v
  pub nrefs : (v : ℕ) → Start M v → length (rec_of rs (m v)).refs ≡ refs M v
  pub nplains : (v : ℕ) → Start M v → length (rec_of rs (m v)).plains ≡ plains M v
  pub apart : (v w : ℕ) → Start M v → Start M w → half_of v ≡ half_of w → m v ≡ m w → v ≡ w

-- ---- values: the fields of the current half's records are the collector-free ones
pub record Values (M : Memory) (m : ℕ → ℕ) (cur : ℕ) (rs : List Record) : Type 0 where
  pub ok : (v i : ℕ) → In M cur v → i < refs M v → Ok M (field M v i)
  pub ref : (v i : ℕ) → In M cur v → i < refs M v → get_or (rec_of rs (m v)).refs i null ≡ m (field M v i)
  pub plain : (v i : ℕ) → In M cur v → i < plains M v → get_or (rec_of rs (m v)).plains i 0 ≡ plain_of M v i

-- ---- roots: sessions xs and globals gs of the store, ys and fgs of the collector-free one
pub record Roots (M : Memory) (m : ℕ → ℕ) (xs : List Session) (ys : List FreeSession) (gs fgs : List ℕ) : Type 0 where
  pub sessions : length xs ≡ session_count
  pub free-sessions : length ys ≡ session_count
  pub registers : (n : ℕ) → n < session_count → length (get_or xs n absent).registers ≡ register_count
  pub free-registers : (n : ℕ) → n < session_count → length (get_or ys n free_absent).registers ≡ register_count
  pub globals : length gs ≡ global_count
  pub free-globals : length fgs ≡ global_count
  pub attached : (n : ℕ) → (get_or ys n free_absent).attached ≡ (get_or xs n absent).attached
  pub idle : (n k : ℕ) → (get_or xs n absent).attached ≡ false → reg xs n k ≡ null
  pub reg_ok : (n k : ℕ) → Ok M (reg xs n k)
  pub reg_is : (n k : ℕ) → freg ys n k ≡ m (reg xs n k)
  pub global_ok : (g : ℕ) → Ok M (get_or gs g null)
  pub global_is : (g : ℕ) → get_or fgs g null ≡ m (get_or gs g null)

-- ---- levels: an attached session has the phase's level or that of the phase before

-- the level of the phase before each, by the phase's number
unfoldable pub level_before : ℕ → ℕ
level_before ph = get_or (0 ∷ 0 ∷ 1 ∷ 2 ∷ 2 ∷ 2 ∷ 3 ∷ 4 ∷ 4 ∷ 5 ∷ 6 ∷ 6 ∷ 6 ∷ []) ph 0

pub record Levels (ph : ℕ) (xs : List Session) : Type 0 where
  pub allowed : (n : ℕ) → (get_or xs n absent).attached ≡ true
      → ((get_or xs n absent).level ≡ level_of ph) ⊎ ((get_or xs n absent).level ≡ level_before ph)

-- ---- which half a word may name: the current one but from PreFlip2 to StackFlip; what is in tospace names tospace
abbrev pub NoFlip : ℕ → Type 0
NoFlip st = st_pre_flip2 ≤ st → st_stack_flip < st

pub record RootHalves (cur st place : ℕ) (xs : List Session) (gs : List ℕ) : Type 0 where
  pub regs : NoFlip st → (n k : ℕ) → Names cur (reg xs n k)
  pub globals : NoFlip st → (g : ℕ) → Names cur (get_or gs g null)
  -- what RootFlip and StackFlip have forwarded names the other half
  pub flipping : st ≡ st_root_flip → (g : ℕ) → g < place → Names (other_half cur) (get_or gs g null)
  pub flipped : st_root_flip < st → st ≤ st_stack_flip → (g : ℕ) → Names (other_half cur) (get_or gs g null)
  pub marked : st ≡ st_stack_flip → (n k : ℕ) → (get_or xs n absent).attached ≡ true → (get_or xs n absent).scanned ≡ true
      → Names (other_half cur) (reg xs n k)

pub record FieldHalves (M : Memory) (cur st : ℕ) : Type 0 where
  pub home : NoFlip st → (v i : ℕ) → In M cur v → i < refs M v → Names cur (field M v i)
  pub away : st ≤ st_stack_flip → (v i : ℕ) → In M (other_half cur) v → i < refs M v → Names (other_half cur) (field M v i)
  pub away_ok : st ≤ st_stack_flip → (v i : ℕ) → In M (other_half cur) v → i < refs M v → Ok M (field M v i)

-- ---- pairs: w is the replica of v
pub record Pair (M : Memory) (m : ℕ → ℕ) (v w : ℕ) : Type 0 where
  pub start : Start M w
  pub across : half_of w ≢ half_of v
  pub back : replica M w ≡ v
  pub same : m w ≡ m v

pub record Pairs (M : Memory) (m : ℕ → ℕ) (cur st : ℕ) : Type 0 where
  pub pair : (v : ℕ) → In M cur v → replica M v ≢ null → Pair M m v (replica M v)
  -- up to StackFlip every record of the other half is the replica of one of the current half
  pub home : st ≤ st_stack_flip → (v : ℕ) → In M (other_half cur) v → (replica M v ≢ null) × Pair M m v (replica M v)
  -- before Allocate the other half is empty
  pub empty : st < st_allocate → frontier M (other_half cur) ≡ 0
  -- the other half holds as many words as the current half's records with a replica: a shell finds room
  pub spent : st ≤ st_stack_flip → frontier M (other_half cur) ≡ total M cur (copied M)

-- ---- agreement: field number j of v has been copied to its replica
pub data Copied (st place wf v j : ℕ) : Type 0 where
  over : st_copy < st → Copied st place wf v j
  earlier : word_of v < place → Copied st place wf v j
  here : word_of v ≡ place → j < wf → Copied st place wf v j

pub record Agreement (M : Memory) (cur st place wf : ℕ) : Type 0 where
  pub refs_agree : st_copy ≤ st → st ≤ st_stack_flip → (v i : ℕ) → In M cur v → replica M v ≢ null → i < refs M v → Copied st place wf v i
      → field M (replica M v) i ≡ fwd M (other_half cur) (field M v i)
  pub plains_agree : st_copy ≤ st → st ≤ st_stack_flip → (v i : ℕ) → In M cur v → replica M v ≢ null → i < plains M v → Copied st place wf v (refs M v + i)
      → plain_of M (replica M v) i ≡ plain_of M v i
