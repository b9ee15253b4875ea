-- What slots hold, and what records are like, after a write to a slot and with one record more.
use Prim.Native.Nat.{ℕ, suc, ◌-◌}
use mathlib.Core.Path.{◌≡◌, refl, sym, ap, ◌∙◌}
use mathlib.Core.Logic.{◌≢◌}
use mathlib.Core.List.{List, [], ◌∷◌}
use native.Mathlib.Omega.{arith}
use lib.ListN.{get_or, set, length, replicate, length-set, length-append, get_or-map, get_or-append, get_or-eq_default}
use lib.Seq.{get_or-set_same, get_or-set_other, map-set_same, get_or_at}
use Rattle.rules.specs.Memory.{null}
use Rattle.rules.specs.Free.{Free, Record, no_record, record_at, with_record}
use Rattle.rules.proofs.memory.Cases.{eq_or, lt_or}
use Rattle.directory_rules.specs.Acts.{own_global}
use Rattle.directory_rules.proofs.free.Slots.{Slot, top, field, held, written, grow, There}

-- a slot that is none of record 0's
abbrev pub Placed : Slot → Type 0
Placed top = Unit {0}
Placed (field q i) = q ≢ null

-- ---- records, one of them set

-- what the new record shares with the old
set_keeps : {B : Type 0} (h : Record → B) (l : List Record) (i j : ℕ) (x : Record) → h x ≡ h (get_or l i no_record)
    → h (get_or (set l i x) j no_record) ≡ h (get_or l j no_record)
set_keeps h l i j x e =
    sym (get_or-map h (set l i x) j no_record) ∙ ap (λ m. get_or m j (h no_record)) (map-set_same h l i x no_record e) ∙ get_or-map h l j no_record

module _ (f : Free) where
  pub written_sessions : (w : Slot) (v : ℕ) → (written f w v).sessions ≡ f.sessions
  unfolding with_record
  written_sessions top v = refl
  written_sessions (field q i) v = refl

  pub written_globals : (w : Slot) (v : ℕ) → length (written f w v).globals ≡ length f.globals
  unfolding with_record
  written_globals top v = length-set f.globals own_global v
  written_globals (field q i) v = refl

  pub written_field-globals : (q i v : ℕ) → (written f (field q i) v).globals ≡ f.globals
  unfolding with_record
  written_field-globals q i v = refl

  pub written_global : (w : Slot) (v g : ℕ) → g ≢ own_global → get_or (written f w v).globals g null ≡ get_or f.globals g null
  unfolding with_record
  written_global top v g n = get_or-set_other f.globals own_global g v null n
  written_global (field q i) v g n = refl

  pub written_records : (w : Slot) (v : ℕ) → length (written f w v).records ≡ length f.records
  unfolding with_record
  written_records top v = refl
  written_records (field q i) v = length-set f.records (q - 1) _

  -- what a write to a reference field keeps of every record
  written_keeps : {B : Type 0} (h : Record → B) (w : Slot) (v q : ℕ)
      → ((x i : ℕ) → h (record { refs = set (record_at f x).refs i v; plains = (record_at f x).plains }) ≡ h (record_at f x))
      → h (record_at (written f w v) q) ≡ h (record_at f q)
  unfolding record_at with_record
  written_keeps h top v q e = refl
  written_keeps h (field x i) v q e = set_keeps h f.records (x - 1) (q - 1) _ (e x i)

  pub written_plains : (w : Slot) (v q : ℕ) → (record_at (written f w v) q).plains ≡ (record_at f q).plains
  written_plains w v q = written_keeps (λ x. x.plains) w v q (λ x i. refl)

  pub written_refs : (w : Slot) (v q : ℕ) → length (record_at (written f w v) q).refs ≡ length (record_at f q).refs
  written_refs w v q = written_keeps (λ x. length x.refs) w v q (λ x i. length-set (record_at f x).refs i v)

  -- a record of which no slot is written
  pub written_record : (w : Slot) (v q : ℕ) → Placed w → q ≢ null → ((i : ℕ) → w ≢ field q i) → record_at (written f w v) q ≡ record_at f q
  unfolding record_at with_record
  written_record top v q p n d = refl
  written_record (field x i) v q p n d = get_or-set_other f.records (x - 1) (q - 1) _ no_record (λ e. d i (let z : x ≡ q = omega arith in rw z))

  -- ---- slots after a write

  pub held_other : (w : Slot) (v : ℕ) → Placed w → (s : Slot) → Placed s → s ≢ w → held (written f w v) s ≡ held f s
  unfolding record_at with_record
  held_other top v p top z d = absurd (d refl)
  held_other top v p (field q i) z d = refl
  held_other (field x j) v p top z d = refl
  held_other (field x j) v p (field q i) z d =
      eq_or i j
      (λ e. ap (λ r. get_or r.refs i null) (get_or-set_other f.records (x - 1) (q - 1) _ no_record (λ k. d (let u : q ≡ x = omega arith in rw (e, u)))))
      (λ n. set_keeps (λ r. get_or r.refs i null) f.records (x - 1) (q - 1) _ (get_or-set_other (get_or f.records (x - 1) no_record).refs j i v null n))

  pub held_same : (w : Slot) (v : ℕ) → There f w → held (written f w v) w ≡ v
  unfolding record_at with_record
  held_same top v t = get_or-set_same f.globals own_global v null t
  held_same (field q i) v t =
      let some = t.0 in
      let within = t.1 in
      ap (λ r. get_or r.refs i null) (get_or-set_same f.records (q - 1) _ no_record (omega arith))
      ∙ get_or-set_same (get_or f.records (q - 1) no_record).refs i v null t.2

  -- every slot stays there
  pub written_there : (w : Slot) (v : ℕ) (sl : Slot) → There f sl → There (written f w v) sl
  written_there w v top h = rw (written_globals w v) h
  written_there w v (field q i) h = (h.0, rw (written_records w v) h.1, rw (written_refs w v q) h.2)

  -- ---- a record more

  module _ (r w : ℕ) where
    pub grow_record : (q : ℕ) → q ≢ null → q ≢ suc (length f.records) → record_at (grow f r w) q ≡ record_at f q
    unfolding record_at
    grow_record q n d =
        lt_or (q - 1) (length f.records)
        (λ b. get_or-append f.records _ no_record (q - 1) b)
        (λ b. get_or-eq_default (grow f r w).records no_record (simp length-append (omega arith)) ∙ sym (get_or-eq_default f.records no_record b))

    pub grow_new : record_at (grow f r w) (suc (length f.records)) ≡ record { refs = replicate r null; plains = w ∷ [] }
    unfolding record_at
    grow_new = get_or_at f.records _ [] no_record _ (omega arith)

    pub grow_length : length (grow f r w).records ≡ suc (length f.records)
    grow_length = simp length-append (omega arith)

    pub grow_there : (sl : Slot) → There f sl → There (grow f r w) sl
    grow_there top h = h
    grow_there (field q i) h = (h.0, omega (arith, h.1, grow_length), rw (grow_record q (λ e. omega (arith, h.0)) (λ e. omega (arith, h.1))) h.2)
