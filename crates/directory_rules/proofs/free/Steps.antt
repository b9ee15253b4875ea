-- What each store call of the directory's session does on the collector-free store, where its tests pass; of a read at null and of an
-- allocation that is fed a refusal, how it is refused.
use Prim.Native.Nat.{ℕ, ◌-◌, ◌≤◌, ◌<◌}
use mathlib.Core.Path.{◌≡◌, refl, ◌∙◌}
use mathlib.Core.Logic.{◌≢◌}
use mathlib.Core.List.{[], ◌∷◌}
use native.Mathlib.Omega.{arith}
use lib.ListN.{length, set, replicate}
use lib.Seq.{set-append_seam}
use borrow.Author.Tests.{le-leb, lt-ltb, ne_eqb}
use Rattle.rules.specs.Memory.{null, most_count}
use Rattle.rules.specs.Control.{last_register}
use Rattle.rules.specs.Refusals.{refused, passed, answer}
use Rattle.rules.specs.Free.{Free, free_session, record_at, free_session_of, free_record_in, free_load, free_store, free_read, free_move, free_clear, free_get, free_put, free_write, with_record, with_free_register}
use Rattle.rules.specs.Answers.{Refused, Done, Word}
use Rattle.rules.proofs.allocation.FreeRecords.{new_place_lem}
use Rattle.directory_rules.specs.Acts.{own_session, allocate, load, store, read, write, move, clear, get, put}
use Rattle.directory_rules.specs.Directory.{fresh, link, other_of, next_field, first_field, number_field, group_register}
use Rattle.directory_rules.specs.declared.Via.{Via}
use Rattle.directory_rules.specs.declared.Via.TheVariants.{Next, First, Top}
use Rattle.directory_rules.proofs.free.Perform.{allocate_fed, free_ask, free_perform}
use Rattle.directory_rules.proofs.free.Session.{reg, set_reg, Ready}
use Rattle.directory_rules.proofs.free.Grown.{grown_ready, grown-at}
use Rattle.directory_rules.proofs.free.Must.{must-done, must-refused, must_last}
use Rattle.directory_rules.proofs.free.Slots.{Slot, top, field, held, written, number_at, slot_of, grow, new_place, There}

-- the tests that calls share
own_passes : {f : Free} → Ready f → free_session_of f own_session ≡ passed (free_session f own_session)
unfolding free_session_of
own_passes ready = rw ready.attached

record_passes : (f : Free) (k : ℕ) {q : ℕ} → reg f k ≡ q → 1 ≤ q → free_record_in (free_session f own_session) k ≡ passed q
unfolding free_record_in
record_passes f k {q} e some = rw (e, ne_eqb q null (λ z. omega arith))

record_null : (f : Free) (k : ℕ) → reg f k ≡ null → free_record_in (free_session f own_session) k ≡ refused 11
unfolding free_record_in
record_null f k none = rw none

module _ (fed : ℕ) {f : Free} (ready : Ready f) where
  pub load_step : (to k i : ℕ) {q : ℕ} → to ≤ last_register → k ≤ last_register → reg f k ≡ q → There f (field q i)
      → free_ask fed f (load to k i) ≡ record { store = set_reg f to (held f (field q i)); reply = answer Done }
  unfolding free_load
  load_step to k i {q} a b e h = rw (own_passes ready, le-leb to last_register a, le-leb k last_register b, record_passes f k e h.0, lt-ltb i (length (record_at f q).refs) h.2)

  pub store_step : (k i from : ℕ) {q : ℕ} → k ≤ last_register → from ≤ last_register → reg f k ≡ q → There f (field q i)
      → free_ask fed f (store k i from) ≡ record { store = written f (field q i) (reg f from); reply = answer Done }
  unfolding free_store
  store_step k i from {q} a b e h = rw (own_passes ready, le-leb k last_register a, le-leb from last_register b, record_passes f k e h.0, lt-ltb i (length (record_at f q).refs) h.2)

  pub read_step : (k : ℕ) {q : ℕ} → k ≤ last_register → reg f k ≡ q → 1 ≤ q → 0 < length (record_at f q).plains
      → free_ask fed f (read k number_field) ≡ record { store = f; reply = answer (Word (number_at f q)) }
  unfolding free_read
  read_step k {q} a e some there = rw (own_passes ready, le-leb k last_register a, record_passes f k e some, lt-ltb 0 (length (record_at f q).plains) there)

  pub read-null : (k i : ℕ) → k ≤ last_register → reg f k ≡ null → free_ask fed f (read k i) ≡ record { store = f; reply = answer (Refused 11) }
  unfolding free_read
  read-null k i a none = rw (own_passes ready, le-leb k last_register a, record_null f k none)

  pub move_step : (to from : ℕ) → to ≤ last_register → from ≤ last_register
      → free_ask fed f (move to from) ≡ record { store = set_reg f to (reg f from); reply = answer Done }
  unfolding free_move
  move_step to from a b = rw (own_passes ready, le-leb to last_register a, le-leb from last_register b)

  pub clear_step : (k : ℕ) → k ≤ last_register → free_ask fed f (clear k) ≡ record { store = set_reg f k null; reply = answer Done }
  unfolding free_clear
  clear_step k a = rw (own_passes ready, le-leb k last_register a)

  pub get-step : (to : ℕ) → to ≤ last_register → free_ask fed f (get to) ≡ record { store = set_reg f to (held f top); reply = answer Done }
  unfolding free_get
  get-step to a = rw (own_passes ready, le-leb to last_register a)

  pub put_step : (from : ℕ) → from ≤ last_register → free_ask fed f (put from) ≡ record { store = written f top (reg f from); reply = answer Done }
  unfolding free_put
  put_step from a = rw (own_passes ready, le-leb from last_register a)

  link-own : (at : ℕ) (via : Via) (from : ℕ) → at ≤ 1 → from ≤ last_register → There f (slot_of f at via)
      → free_perform fed f (link at via from) ≡ record { store = written f (slot_of f at via) (reg f from); result = passed tt }
  link-own at Next from low b h =
      must_last fed f (store (other_of at) next_field from) (store_step (other_of at) next_field from (omega arith) b refl h)
  link-own at First from low b h =
      must_last fed f (store group_register first_field from) (store_step group_register first_field from (omega arith) b refl h)
  link-own at Top from low b h = must_last fed f (put from) (put_step from b)

  -- the slot that names the record at hand, and what is written there, by other names
  pub link-step : (at : ℕ) (via : Via) (from : ℕ) {sl : Slot} {v : ℕ} → at ≤ 1 → from ≤ last_register → slot_of f at via ≡ sl → reg f from ≡ v → There f sl
      → free_perform fed f (link at via from) ≡ record { store = written f sl v; result = passed tt }
  link-step at via from low b e i h = link-own at via from low b (rw e h) ∙ rw (e, i)

-- ---- a new record

allocate-step : {f : Free} → Ready f → (k r : ℕ) → k ≤ last_register → r ≤ most_count
    → free_ask 0 f (allocate k r 1) ≡ record { store = set_reg (grow f r 0) k (new_place f); reply = answer Done }
unfolding allocate_fed
allocate-step ready k r a few = rw (own_passes ready, le-leb k last_register a, le-leb r most_count few)

allocate-refused : {f : Free} {fed : ℕ} → fed ≢ 0 → Ready f → (k r : ℕ) → k ≤ last_register → r ≤ most_count
    → free_ask fed f (allocate k r 1) ≡ record { store = f; reply = answer (Refused fed) }
unfolding allocate_fed
allocate-refused {fed = fed} d ready k r a few = rw (own_passes ready, le-leb k last_register a, le-leb r most_count few, ne_eqb fed 0 d)

-- record q with another word
abbrev reworded : Free → ℕ → ℕ → Free
reworded f q w = with_record f q (record { refs = (record_at f q).refs; plains = set (record_at f q).plains number_field w })

write_step : {f : Free} → Ready f → (k w q : ℕ) → k ≤ last_register → reg f k ≡ q → 1 ≤ q → 0 < length (record_at f q).plains
    → free_ask 0 f (write k number_field w) ≡ record { store = reworded f q w; reply = answer Done }
unfolding free_write
write_step {f} ready k w q a e some there =
    rw (own_passes ready, le-leb k last_register a, record_passes f k e some, lt-ltb 0 (length (record_at f q).plains) there)

-- the new record, before its word is written
new_record : (f : Free) (r k v : ℕ) → record_at (set_reg (grow f r 0) k v) (new_place f) ≡ record { refs = replicate r null; plains = 0 ∷ [] }
unfolding with_free_register record_at
new_record f r k v = new_place_lem f.records (record { refs = replicate r null; plains = 0 ∷ [] })

new_reworded : (f : Free) (r k v w : ℕ)
    → with_record (set_reg (grow f r 0) k v) (new_place f) (record { refs = replicate r null; plains = w ∷ [] }) ≡ set_reg (grow f r w) k v
unfolding with_free_register with_record free_session
new_reworded f r k v w =
    let e : new_place f - 1 ≡ length f.records = omega arith in
    rw (e, set-append_seam f.records (record { refs = replicate r null; plains = 0 ∷ [] }) [] (record { refs = replicate r null; plains = w ∷ [] }))

-- a new record with its word
pub fresh_grows : {f : Free} → Ready f → (k r w : ℕ) → k ≤ last_register → r ≤ most_count
    → free_perform 0 f (fresh k r w) ≡ record { store = set_reg (grow f r w) k (new_place f); result = passed tt }
fresh_grows {f} ready k r w a few =
    let q = new_place f in
    let g = set_reg (grow f r 0) k q in
    let new = new_record f r k q in
    must-done 0 f (allocate k r 1) _ (allocate-step ready k r a few)
    ∙ must_last 0 g (write k number_field w)
    (write_step (grown_ready ready k r 0 (omega arith)) k w q a (grown-at ready k r 0 (omega arith)) (omega arith) (rw new (omega arith)))
    ∙ rw (new, new_reworded f r k q w)

pub fresh-refused : {f : Free} {fed : ℕ} → fed ≢ 0 → Ready f → (k r w : ℕ) → k ≤ last_register → r ≤ most_count
    → free_perform fed f (fresh k r w) ≡ record { store = f; result = refused fed }
fresh-refused {f} {fed} d ready k r w a few = must-refused fed f (allocate k r 1) _ (allocate-refused d ready k r a few)
