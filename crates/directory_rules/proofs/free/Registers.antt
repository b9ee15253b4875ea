-- Laws of the session's registers: one set, and stores that differ in registers alone.
use Prim.Native.Nat.{ℕ, zero, suc, ◌+◌, ◌≤◌, ◌<◌}
use mathlib.Core.Path.{◌≡◌, refl, sym, ap, ◌∙◌}
use mathlib.Core.Logic.{◌≢◌}
use mathlib.Core.List.{List}
use native.Mathlib.Omega.{arith}
use lib.ListN.{get_or, set, length, length-set}
use lib.Seq.{get_or-set_same, get_or-set_other}
use Rattle.rules.specs.Memory.{null}
use Rattle.rules.specs.Control.{register_count}
use Rattle.rules.specs.Free.{Free, FreeSession, Record, free_absent, free_session, free_register, with_free_register, with_free_registers, record_at}
use Rattle.rules.proofs.memory.Cases.{lt_or, eq_or}
use Rattle.directory_rules.specs.Acts.{own_session, own_global}
use Rattle.directory_rules.specs.Directory.{number_field}
use Rattle.directory_rules.proofs.free.Session.{reg, set_reg, Shaped, Ready, OnlyRegs}
use Rattle.directory_rules.proofs.free.Slots.{Slot, top, field, held, number_at, There}

-- ---- one register set

module _ (f : Free) (k v : ℕ) where
  set-records : (set_reg f k v).records ≡ f.records
  unfolding with_free_register
  set-records = refl

  set-globals : (set_reg f k v).globals ≡ f.globals
  unfolding with_free_register
  set-globals = refl

  set-sessions : length (set_reg f k v).sessions ≡ length f.sessions
  unfolding with_free_register
  set-sessions = length-set f.sessions own_session _

  set-others : (m : ℕ) → m ≢ own_session → free_session (set_reg f k v) m ≡ free_session f m
  unfolding with_free_register free_session
  set-others m d = get_or-set_other f.sessions own_session m _ free_absent d

  module _ (shaped : Shaped f) where
    -- the session itself
    set_own : free_session (set_reg f k v) own_session ≡ with_free_registers (free_session f own_session) (set (free_session f own_session).registers k v)
    unfolding with_free_register free_session
    set_own = get_or-set_same f.sessions own_session _ free_absent (omega arith)

    set-attached : (free_session (set_reg f k v) own_session).attached ≡ (free_session f own_session).attached
    set-attached = ap (λ (x : FreeSession). x.attached) set_own

    set-length : length (free_session (set_reg f k v) own_session).registers ≡ length (free_session f own_session).registers
    set-length = ap (λ (x : FreeSession). length x.registers) set_own ∙ length-set (free_session f own_session).registers k v

    pub reg_same : k < register_count → reg (set_reg f k v) k ≡ v
    unfolding free_register
    reg_same l = rw set_own (get_or-set_same (free_session f own_session).registers k v null (omega arith))

    pub reg_other : (j : ℕ) → j ≢ k → reg (set_reg f k v) j ≡ reg f j
    unfolding free_register
    reg_other j d = rw set_own (get_or-set_other (free_session f own_session).registers k j v null d)

    pub set_only : (n : ℕ) → k < n → OnlyRegs n f (set_reg f k v)
    set_only n l = record {
      records = set-records;
      globals = set-globals;
      others = set-others;
      attached = set-attached;
      sessions = set-sessions;
      registers = set-length;
      above = λ j b. reg_other j (omega arith);
    }

-- ---- stores that differ in registers alone

pub only_same : (n : ℕ) (f : Free) → OnlyRegs n f f
only_same n f =
    record { records = refl; globals = refl; others = λ m d. refl; attached = refl; sessions = refl; registers = refl; above = λ k l. refl }

pub only_then : {n : ℕ} {f g h : Free} → OnlyRegs n f g → OnlyRegs n g h → OnlyRegs n f h
only_then a b = record {
  records = b.records ∙ a.records;
  globals = b.globals ∙ a.globals;
  others = λ m d. b.others m d ∙ a.others m d;
  attached = b.attached ∙ a.attached;
  sessions = b.sessions ∙ a.sessions;
  registers = b.registers ∙ a.registers;
  above = λ k l. b.above k l ∙ a.above k l;
}

pub only_more : {n m : ℕ} {f g : Free} → n ≤ m → OnlyRegs n f g → OnlyRegs m f g
only_more l a = record {
  records = a.records;
  globals = a.globals;
  others = a.others;
  attached = a.attached;
  sessions = a.sessions;
  registers = a.registers;
  above = λ k b. a.above k (omega arith);
}

module _ {n : ℕ} {f g : Free} (o : OnlyRegs n f g) where
  pub only_shaped : Shaped f → Shaped g
  only_shaped s = record {
    sessions = o.sessions ∙ s.sessions;
    registers = o.registers ∙ s.registers;
    globals = ap length o.globals ∙ s.globals;
  }

  pub only_ready : Ready f → Ready g
  only_ready r = record { shaped = only_shaped r.shaped; attached = o.attached ∙ r.attached }

  pub only_record_at : (q : ℕ) → record_at g q ≡ record_at f q
  unfolding record_at
  only_record_at q = rw o.records

  pub only_held : (sl : Slot) → held g sl ≡ held f sl
  only_held top = ap (λ (gs : List ℕ). get_or gs own_global null) o.globals
  only_held (field q i) = ap (λ (x : Record). get_or x.refs i null) (only_record_at q)

  pub only_number : (q : ℕ) → number_at g q ≡ number_at f q
  only_number q = ap (λ (x : Record). get_or x.plains number_field 0) (only_record_at q)

  pub only_there : (sl : Slot) → There f sl → There g sl
  only_there top h = rw o.globals h
  only_there (field q i) h = (h.0, rw o.records h.1, rw (only_record_at q) h.2)

-- a register set to what a slot holds
pub reg_held : {f : Free} → Shaped f → (k : ℕ) (sl : Slot) → k < register_count → reg (set_reg f k (held f sl)) k ≡ held (set_reg f k (held f sl)) sl
reg_held {f} s k sl l = reg_same f k (held f sl) s l ∙ sym (only_held (set_only f k (held f sl) s (suc k) (omega arith)) sl)

-- a register set after that
pub only_set : {n : ℕ} {f g : Free} → OnlyRegs n f g → Shaped g → (k v : ℕ) → k < n → OnlyRegs n f (set_reg g k v)
only_set {n} o s k v l = only_then o (set_only _ k v s n l)

pub ready_set : {f : Free} → Ready f → (k v : ℕ) → k < register_count → Ready (set_reg f k v)
ready_set {f} r k v l = only_ready (set_only f k v r.shaped register_count l) r

-- ---- registers nulled one after another

-- n registers from k on set to null
abbrev pub nulled : ℕ → ℕ → Free → Free
nulled zero k f = f
nulled (suc n) k f = nulled n (suc k) (set_reg f k null)

nulled_only : (n k : ℕ) {f : Free} → Shaped f → OnlyRegs (n + k) f (nulled n k f)
nulled_only zero k s = only_same _ _
nulled_only (suc n) k {f} s =
    let o : OnlyRegs (suc n + k) f (set_reg f k null) = set_only f k null s (suc n + k) (omega arith) in
    only_then o (only_more (omega arith) (nulled_only n (suc k) (only_shaped o s)))

nulled_below : (n k : ℕ) {f : Free} → Shaped f → (j : ℕ) → j < k → reg (nulled n k f) j ≡ reg f j
nulled_below zero k s j l = refl
nulled_below (suc n) k {f} s j l =
    nulled_below n (suc k) (only_shaped (set_only f k null s (suc k) (omega arith)) s) j (omega arith) ∙ reg_other f k null s j (omega arith)

nulled_from : (n k : ℕ) {f : Free} → Shaped f → n + k ≤ register_count → (j : ℕ) → k ≤ j → j < n + k → reg (nulled n k f) j ≡ null
nulled_from zero k s few j a b = absurd (omega arith)
nulled_from (suc n) k {f} s few j a b =
    let t : Shaped (set_reg f k null) = only_shaped (set_only f k null s (suc k) (omega arith)) s in
    eq_or j k
    (λ e. rw e (nulled_below n (suc k) t k (omega arith) ∙ reg_same f k null s (omega arith)))
    (λ d. nulled_from n (suc k) t (omega arith) j (omega arith) (omega arith))

-- all registers, where those from n on were null already
pub nulled_all : {g : Free} (n : ℕ) → n ≤ register_count → Shaped g → ((k : ℕ) → n ≤ k → reg g k ≡ null) → (k : ℕ) → reg (nulled n 0 g) k ≡ null
nulled_all n few s above k = lt_or k n
    (λ l. nulled_from n 0 s (omega arith) k (omega arith) (omega arith))
    (λ l. (nulled_only n 0 s).above k (omega arith) ∙ above k l)

pub nulled_zero : {g : Free} (n : ℕ) → Shaped g → OnlyRegs n g (nulled n 0 g)
nulled_zero n s = only_more (omega arith) (nulled_only n 0 s)
