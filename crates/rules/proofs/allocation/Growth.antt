-- All that the invariant asks of new records: their tracked place, the collector-free records beside them, their replica words and their colours.
use Prim.Native.Nat.{ℕ, ◌≤◌, ◌<◌}
use mathlib.Core.Path.{◌≡◌}
use mathlib.Core.Logic.{◌≢◌}
use mathlib.Core.List.{List}
use lib.ListN.{get_or, length}
use Rattle.rules.specs.Memory.{Memory, null, frontier, half_of, white, grey, black, colour, replica, birth_number, refs, plains}
use Rattle.rules.specs.Phases.{other_half}
use Rattle.rules.specs.Free.{Record}
use Rattle.rules.proofs.memory.Records.{Start}
use Rattle.rules.proofs.memory.Total.{total}
use Rattle.rules.proofs.invariant.Stages.{st_rest, st_pre_mark1, st_heap_mark, st_allocate, st_copy, st_stack_flip, st_reclaim}
use Rattle.rules.proofs.invariant.Words.{marks, copied, rec_of}
use Rattle.rules.proofs.invariant.Groups.{Pair}

-- the collector-free records rs, with or without a new one of null and zero fields at the end
pub record Longer (rs rs' : List Record) : Type 0 where
  pub more : length rs ≤ length rs'
  pub old : (p : ℕ) → 0 < p → p ≤ length rs → rec_of rs' p ≡ rec_of rs p
  pub refs : (p i : ℕ) → get_or (rec_of rs' p).refs i null ≡ get_or (rec_of rs p).refs i null
  pub plains : (p i : ℕ) → get_or (rec_of rs' p).plains i 0 ≡ get_or (rec_of rs p).plains i 0

-- the tracked place: new records have the place q, which is their birth number
pub record Placed (M M' : Memory) (New : ℕ → Type 0) (m m' : ℕ → ℕ) (cur q : ℕ) (rs rs' : List Record) : Type 0 where
  pub none : m' null ≡ m null
  pub old : {u : ℕ} → Start M u → m' u ≡ m u
  pub new : {u : ℕ} → New u → m' u ≡ q
  pub low : 0 < q
  pub high : q ≤ length rs'
  pub born : {u : ℕ} → New u → birth_number M' u ≡ q
  pub nrefs : {u : ℕ} → New u → length (rec_of rs' q).refs ≡ refs M' u
  pub nplains : {u : ℕ} → New u → length (rec_of rs' q).plains ≡ plains M' u
  pub apart : {u v : ℕ} → New u → Start M v → half_of v ≡ half_of u → m v ≢ q
  pub single : {u v : ℕ} → New u → New v → half_of v ≡ half_of u → v ≡ u
  -- a new record of the current half is new to the collector-free store too
  pub fresh : {u : ℕ} → New u → half_of u ≡ cur → length rs < q

-- replica words of new records, and of those that have got one
pub record Joined (M M' : Memory) (New Re : ℕ → Type 0) (m' : ℕ → ℕ) (cur st : ℕ) : Type 0 where
  pub before : {u : ℕ} → Re u → replica M u ≡ null
  pub after : {u : ℕ} → Re u → replica M' u ≢ null
  pub marked : {u : ℕ} → Re u → colour M u ≢ white
  pub early : {u : ℕ} → Re u → st < st_copy
  pub old_pair : {u : ℕ} → Re u → Pair M' m' u (replica M' u)
  pub new_pair : {u : ℕ} → New u → replica M' u ≢ null → Pair M' m' u (replica M' u)
  pub home : st ≤ st_stack_flip → {u : ℕ} → New u → half_of u ≡ other_half cur → replica M' u ≢ null
  pub closed : st_copy ≤ st → {u : ℕ} → New u → replica M' u ≢ null → New (replica M' u)
  pub empty : st < st_allocate → frontier M' (other_half cur) ≡ 0
  pub spent : st ≤ st_stack_flip → frontier M' (other_half cur) ≡ total M' cur (copied M')

-- colours of new records
pub record Tinted (M M' : Memory) (New : ℕ → Type 0) (cur st : ℕ) : Type 0 where
  pub at_rest : st ≡ st_rest → {u : ℕ} → New u → half_of u ≡ cur → colour M' u ≡ white
  pub at_reclaim : st ≡ st_reclaim → {u : ℕ} → New u → half_of u ≡ cur → colour M' u ≡ white
  pub none_black : st ≡ st_pre_mark1 → {u : ℕ} → New u → half_of u ≡ cur → colour M' u ≢ black
  pub none_grey : {u : ℕ} → New u → half_of u ≡ cur → colour M' u ≢ grey
  pub white_away : st ≤ st_stack_flip → {u : ℕ} → New u → half_of u ≡ other_half cur → colour M' u ≡ white
  pub paired : st ≤ st_stack_flip → {u : ℕ} → New u → half_of u ≡ cur → replica M' u ≢ null → colour M' u ≢ white
  pub shelled : st_allocate < st → st ≤ st_stack_flip → {u : ℕ} → New u → half_of u ≡ cur → colour M' u ≢ white → replica M' u ≢ null
  -- they leave the grey list its room
  pub room : st_rest < st → st ≤ st_heap_mark → total M cur (marks M) ≤ total M' cur (marks M')
