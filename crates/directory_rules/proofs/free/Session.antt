-- The registers of the directory's session on the collector-free store, and stores with the same sessions.
use Prim.Native.Nat.{ℕ, ◌≤◌}
use mathlib.Core.Path.{◌≡◌, ◌∙◌}
use mathlib.Core.Logic.{◌≢◌}
use mathlib.Core.Bool.{true}
use lib.ListN.{length}
use Rattle.rules.specs.Control.{session_count, register_count, global_count}
use Rattle.rules.specs.Free.{Free, free_session, free_register, with_free_register}
use Rattle.directory_rules.specs.Acts.{own_session}

abbrev pub reg : Free → ℕ → ℕ
reg f k = free_register (free_session f own_session) k

abbrev pub set_reg : Free → ℕ → ℕ → Free
set_reg f k v = with_free_register f own_session k v

-- 16 sessions, 8 registers of the directory's, 32 globals
pub record Shaped (f : Free) : Type 0 where
  pub sessions : length f.sessions ≡ session_count
  pub registers : length (free_session f own_session).registers ≡ register_count
  pub globals : length f.globals ≡ global_count

-- and the session is attached
pub record Ready (f : Free) : Type 0 where
  pub shaped : Shaped f
  pub attached : (free_session f own_session).attached ≡ true

-- nothing differs but registers of the session below n
pub record OnlyRegs (n : ℕ) (f f' : Free) : Type 0 where
  pub records : f'.records ≡ f.records
  pub globals : f'.globals ≡ f.globals
  pub others : (m : ℕ) → m ≢ own_session → free_session f' m ≡ free_session f m
  pub attached : (free_session f' own_session).attached ≡ (free_session f own_session).attached
  pub sessions : length f'.sessions ≡ length f.sessions
  pub registers : length (free_session f' own_session).registers ≡ length (free_session f own_session).registers
  pub above : (k : ℕ) → n ≤ k → reg f' k ≡ reg f k

-- ---- a store with the same sessions

module _ (f g : Free) (e : g.sessions ≡ f.sessions) where
  pub same-session : (n : ℕ) → free_session g n ≡ free_session f n
  unfolding free_session
  same-session n = rw e

  pub same_reg : (k : ℕ) → reg g k ≡ reg f k
  same_reg k = rw (same-session own_session)

  pub shaped_from : length g.globals ≡ length f.globals → Shaped f → Shaped g
  shaped_from k h = record { sessions = rw e h.sessions; registers = rw (same-session own_session) h.registers; globals = k ∙ h.globals }

  pub ready_from : length g.globals ≡ length f.globals → Ready f → Ready g
  ready_from k h = record { shaped = shaped_from k h.shaped; attached = rw (same-session own_session) h.attached }
