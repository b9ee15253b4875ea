-- A field of a record of the current half written, and the same field of its replica where that is written too.
-- v is the record, t its replica or null, j the word that the field is, x the collector-free record after it.
use Prim.Native.Nat.{ℕ, ◌-◌, ◌≤◌, ◌<◌}
use mathlib.Core.Path.{◌≡◌, sym, ◌∙◌}
use mathlib.Core.Logic.{◌≢◌, ◌⊎◌, inl, inr}
use mathlib.Core.List.{List}
use native.Mathlib.Omega.{arith}
use lib.ListN.{get_or, length, set}
use Rattle.rules.specs.Memory.{Memory, null, replica, refs, plains, header, ref_field, plain_field}
use Rattle.rules.specs.Control.{Store}
use Rattle.rules.specs.Cycle.{stage}
use Rattle.rules.specs.Phases.{other_half}
use Rattle.rules.specs.Free.{Free, Record}
use Rattle.rules.proofs.memory.Cases.{eq_or, either}
use Rattle.rules.proofs.memory.Records.{Start}
use Rattle.rules.proofs.invariant.Stages.{st_pre_mark1, st_heap_mark, st_copy, st_stack_flip}
use Rattle.rules.proofs.invariant.Words.{In, Ok, Names, Clean, field, plain_of, fwd, rec_of}
use Rattle.rules.proofs.invariant.Groups.{NoFlip}
use Rattle.rules.proofs.invariant.Sim.{Sim}
use Rattle.rules.proofs.invariant.Laws.{cur_two, other_not}
use Rattle.rules.proofs.invariant.Pairs.{pair_other}
use Rattle.rules.proofs.frames.Frame.{Frame}
use Rattle.rules.proofs.frames.Change.{refs-kept}
use Rattle.rules.proofs.frames.Kept.{in_back, field-kept, plain_kept}
use Rattle.rules.proofs.frames.Whole.{FieldChanged, field_changed}
use Rattle.rules.proofs.fields.FreeRecords.{rec_set-same, rec_set_other}

-- only word j of v and of t
abbrev pub Two : ℕ → ℕ → ℕ → ℕ → ℕ → Type 0
Two v t j = λ a i. (i ≡ j) × ((a ≡ v) ⊎ (a ≡ t))

pub record FieldWrite (K : ℕ → Type 0) (m : ℕ → ℕ) (s : Store) (f : Free) (M' : Memory) (v t j : ℕ) (x : Record) : Type 0 where
  pub frame : Frame s.memory M' (Two v t j)
  pub here : In s.memory s.current v
  pub past : header ≤ j
  pub apart : ¬ In s.memory s.current t
  pub paired : stage s.phase ≤ st_stack_flip → In s.memory (other_half s.current) t → replica s.memory t ≡ v
  -- the collector-free record
  pub refs-number : length x.refs ≡ refs s.memory v
  pub plains-number : length x.plains ≡ plains s.memory v
  pub ref_is : (k : ℕ) → k < refs s.memory v → get_or x.refs k null ≡ m (field M' v k)
  pub plain_is : (k : ℕ) → k < plains s.memory v → get_or x.plains k 0 ≡ plain_of M' v k
  pub held : (k : ℕ) → get_or x.refs k null ≢ null
      → (get_or x.refs k null ≡ get_or (rec_of f.records (m v)).refs k null) ⊎ K (get_or x.refs k null)
  -- the new word, where it is a reference field
  pub ok : (k : ℕ) → ref_field k ≡ j → k < refs s.memory v → Ok s.memory (field M' v k)
  pub side : NoFlip (stage s.phase)
      → (k : ℕ) → ref_field k ≡ j → k < refs s.memory v → Names s.current (field M' v k)
  pub clean : st_pre_mark1 < stage s.phase → stage s.phase ≤ st_stack_flip
      → (k : ℕ) → ref_field k ≡ j → k < refs s.memory v → Clean s.memory s.current (field M' v k)
  -- in HeapMark the word that it takes the place of
  pub over : stage s.phase ≡ st_heap_mark → (k : ℕ) → ref_field k ≡ j → k < refs s.memory v → Clean s.memory s.current (field s.memory v k)
  pub away : stage s.phase ≤ st_stack_flip → In s.memory (other_half s.current) t
      → (k : ℕ) → ref_field k ≡ j → k < refs s.memory t → Names (other_half s.current) (field M' t k) × Ok s.memory (field M' t k)
  -- the replica's word agrees with it
  pub refs_agree : st_copy ≤ stage s.phase → stage s.phase ≤ st_stack_flip → replica s.memory v ≢ null
      → (k : ℕ) → ref_field k ≡ j → k < refs s.memory v
      → field M' (replica s.memory v) k ≡ fwd s.memory (other_half s.current) (field M' v k)
  pub plains_agree : st_copy ≤ stage s.phase → stage s.phase ≤ st_stack_flip → replica s.memory v ≢ null
      → (k : ℕ) → plain_field (refs s.memory v) k ≡ j → k < plains s.memory v
      → plain_of M' (replica s.memory v) k ≡ plain_of M' v k

module _ {K : ℕ → Type 0} {m : ℕ → ℕ} {s : Store} {f : Free} {M' : Memory} {v t j : ℕ} {x : Record}
    (h : Sim K m s f) (w : FieldWrite K m s f M' v t j x) where
  abbrev M : Memory
  M = s.memory

  abbrev cur : ℕ
  cur = s.current

  abbrev away_half : ℕ
  away_half = other_half s.current

  abbrev after : List Record
  after = set f.records (m v - 1) x

  pub changed : FieldChanged m s M' f
  changed = field_changed h w.frame (λ a i q. let e = q.0 in let p = w.past in omega arith)

  -- ---- which words stay

  not_t : {a : ℕ} → In M cur a → a ≢ t
  not_t {a} i e = w.apart (rw e at i)

  -- a record of the current half, other than v or at another word
  kept_at : {a : ℕ} → In M cur a → (i : ℕ) → (a ≢ v) ⊎ (i ≢ j) → ¬ Two v t j a i
  kept_at {a} q i d z = either d (λ n. either z.1 n (not_t q)) (λ n. n z.0)

  pub ref_kept : {a : ℕ} → In M cur a → (k : ℕ) → k < refs M a → (a ≢ v) ⊎ (ref_field k ≢ j) → field M' a k ≡ field M a k
  ref_kept q k l d = field-kept w.frame q.start k l (kept_at q (ref_field k) d)

  pub plain_word-kept : {a : ℕ} → In M cur a → (k : ℕ) → k < plains M a → (a ≢ v) ⊎ (plain_field (refs M a) k ≢ j) → plain_of M' a k ≡ plain_of M a k
  plain_word-kept {a} q k l d = plain_kept w.frame q.start k l (kept_at q (plain_field (refs M a) k) d)

  -- a property of the fields of the current half that holds of the new word holds of all
  pub each_ref : (P : ℕ → ℕ → ℕ → Type 0) → ((a k : ℕ) → In M cur a → k < refs M a → P a k (field M a k))
      → ((k : ℕ) → ref_field k ≡ j → k < refs M v → P v k (field M' v k))
      → (a k : ℕ) → In M' cur a → k < refs M' a → P a k (field M' a k)
  each_ref P old new a k q' l' =
      let q = in_back w.frame q' in
      let l : k < refs M a = rw (refs-kept w.frame q.start) at l' in
      eq_or a v
      (λ e. eq_or (ref_field k) j
      (λ i. rw e (new k i (rw e at l)))
      (λ n. rw (ref_kept q k l (inr n)) (old a k q l)))
      (λ n. rw (ref_kept q k l (inl n)) (old a k q l))

  -- ---- the collector-free record

  low_v : 0 < m v
  low_v = h.identity.low v w.here.start

  within : m v - 1 < length f.records
  within = omega (arith, low_v, h.identity.high v w.here.start)

  -- a record of place p after the write
  pub by_place : (p : ℕ) {C : Type 0} → (p - 1 ≡ m v - 1 → rec_of after p ≡ x → C) → (p - 1 ≢ m v - 1 → rec_of after p ≡ rec_of f.records p → C) → C
  by_place p same other = eq_or (p - 1) (m v - 1)
      (λ e. same e (rec_set-same f.records (m v) p x e within))
      (λ d. other d (rec_set_other f.records (m v) p x d))

  -- a record stands for v's place
  pub place_same : {a : ℕ} → Start M a → m a - 1 ≡ m v - 1 → m a ≡ m v
  place_same {a} q e = omega (arith, low_v, h.identity.low a q)

  -- of the current half v alone stands for v's place
  pub only_v : {a : ℕ} → In M cur a → m a - 1 ≡ m v - 1 → a ≡ v
  only_v {a} q e = h.identity.apart a v q.start w.here.start (q.side ∙ sym w.here.side) (place_same q.start e)

  -- ---- the other half

  other_not_v : {a : ℕ} → In M away_half a → a ≢ v
  other_not_v {a} q e = other_not h (sym q.side ∙ rw e w.here.side)

  -- a record of the other half, other than t or at another word
  away_at : {a : ℕ} → In M away_half a → (i : ℕ) → (a ≢ t) ⊎ (i ≢ j) → ¬ Two v t j a i
  away_at {a} q i d z = either d (λ n. either z.1 (other_not_v q) n) (λ n. n z.0)

  pub away_kept : {a : ℕ} → In M away_half a → (k : ℕ) → k < refs M a → (a ≢ t) ⊎ (ref_field k ≢ j) → field M' a k ≡ field M a k
  away_kept q k l d = field-kept w.frame q.start k l (away_at q (ref_field k) d)

  pub away_plain : {a : ℕ} → In M away_half a → (k : ℕ) → k < plains M a → (a ≢ t) ⊎ (plain_field (refs M a) k ≢ j) → plain_of M' a k ≡ plain_of M a k
  away_plain {a} q k l d = plain_kept w.frame q.start k l (away_at q (plain_field (refs M a) k) d)

  -- the replica of another record of the current half isn't t
  pub other_pair : stage s.phase ≤ st_stack_flip → {a : ℕ} → In M cur a → replica M a ≢ null → a ≢ v → replica M a ≢ t
  other_pair hi {a} q n d e =
      let o = pair_other (cur_two h) h.pairs q n in
      d (sym (h.pairs.pair a q n).back ∙ rw e (w.paired hi (rw e at o)))
