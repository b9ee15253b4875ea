-- Phases and levels: fromspace and tospace, sessions by number, and moving on to the next phase.
use Rattle.std.specs.Prelude.{ℕ, suc, ◌-◌, Bool, true, false, cond, not, ◌&&◌, ◌||◌, List, [], ◌∷◌, map, eqb, get_or, set, replicate}
use Rattle.rules.specs.Memory.{null}
use Rattle.rules.specs.Cycle.{at_reclaim}
unfoldable pub use Rattle.rules.specs.Cycle.{level_of, next_phase}
use Rattle.rules.specs.Control.{Store, with_sessions, register_count}
use Rattle.rules.specs.declared.Session.{Session}

-- ---- fromspace and tospace

unfoldable pub other_half : ℕ → ℕ
other_half h = 1 - h

-- "Fromspace is the current half and tospace the other until phase 12; in phase 12 tospace is the current half"
unfoldable pub fromspace : Store → ℕ
fromspace s = cond (eqb s.phase at_reclaim) (other_half s.current) s.current

unfoldable pub tospace : Store → ℕ
tospace s = other_half (fromspace s)

-- ---- sessions

-- what stands past the last session; no call reaches it
abbrev pub absent : Session
absent = record { registers = []; level = 0; share = 0; charge = 0; attached = false; scanned = false }

unfoldable pub session_at : Store → ℕ → Session
session_at s n = get_or s.sessions n absent

unfoldable pub with_session : Store → ℕ → Session → Store
with_session s n x = with_sessions s (set s.sessions n x)

unfoldable pub register : Session → ℕ → ℕ
register x k = get_or x.registers k null

-- ---- a session with one part changed

abbrev pub with_registers : Session → List ℕ → Session
with_registers x vs = record { registers = vs; level = x.level; share = x.share; charge = x.charge; attached = x.attached; scanned = x.scanned }

abbrev pub with_level : Session → ℕ → Session
with_level x l = record { registers = x.registers; level = l; share = x.share; charge = x.charge; attached = x.attached; scanned = x.scanned }

abbrev pub with_share : Session → ℕ → Session
with_share x n = record { registers = x.registers; level = x.level; share = n; charge = x.charge; attached = x.attached; scanned = x.scanned }

abbrev pub with_charge : Session → ℕ → Session
with_charge x n = record { registers = x.registers; level = x.level; share = x.share; charge = n; attached = x.attached; scanned = x.scanned }

abbrev pub with_attached : Session → Bool → Session
with_attached x b = record { registers = x.registers; level = x.level; share = x.share; charge = x.charge; attached = b; scanned = x.scanned }

abbrev pub with_mark : Session → Bool → Session
with_mark x b = record { registers = x.registers; level = x.level; share = x.share; charge = x.charge; attached = x.attached; scanned = b }

-- registers null, attached or not; the rest stays
abbrev pub cleared : Session → Bool → Session
cleared x b = with_attached (with_registers x (replicate register_count null)) b

-- a session newly attached at level l, with a scanned mark or without. Request [7]: it gets the share, and the charge stays
abbrev pub attached_at : Session → ℕ → ℕ → Bool → Session
attached_at x share l b = with_mark (with_level (with_share (cleared x true) share) l) b

-- "registers null, level 0"; the scanned mark stays, and share and charge
abbrev pub detached : Session → Session
detached x = with_level (cleared x false) 0

-- no session has a scanned mark
unfoldable pub unmarked : List Session → List Session
unmarked = map (λ x. with_mark x false)

-- request [7]: nothing is charged to any session; and the store so
unfoldable pub uncharged : List Session → List Session
uncharged = map (λ x. with_charge x 0)

unfoldable pub without_charges : Store → Store
without_charges s = with_sessions s (uncharged s.sessions)

-- "every attached session has the level"
abbrev pub all_at : ℕ → List Session → Bool
all_at l [] = true
all_at l (x ∷ xs) = (not x.attached || eqb x.level l) && all_at l xs

-- the number of the lowest attached session without a scanned mark; the number of sessions where there is none
abbrev pub lowest_unmarked : List Session → ℕ
lowest_unmarked [] = 0
lowest_unmarked (x ∷ xs) = cond (x.attached && not x.scanned) 0 (suc (lowest_unmarked xs))

-- ---- moving on

-- "it moves to the next phase (12 to 0), resets walk place and field to 0 and clears scanned marks"
unfoldable pub move_on : Store → Store
move_on s =
    record {
      lengths = s.lengths;
      memory = s.memory;
      current = s.current;
      phase = next_phase s.phase;
      walk = record { place = 0; field = 0 };
      list = s.list;
      births = s.births;
      globals = s.globals;
      sessions = unmarked s.sessions;
    }
