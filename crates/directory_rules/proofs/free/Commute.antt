-- A slot written and registers changed, in either order: it comes to the same but for those registers.
use Prim.Native.Nat.{ℕ}
use mathlib.Core.Path.{◌≡◌, sym, ◌∙◌}
use Rattle.rules.specs.Free.{Free, free_session, record_at, with_record}
use Rattle.directory_rules.specs.Acts.{own_session}
use Rattle.directory_rules.proofs.free.Session.{reg, Ready, OnlyRegs, same-session, same_reg, ready_from}
use Rattle.directory_rules.proofs.free.Slots.{Slot, top, field, written}
use Rattle.directory_rules.proofs.free.Held.{written_sessions, written_globals}

module _ (f : Free) (sl : Slot) (v : ℕ) where
  written_session : (m : ℕ) → free_session (written f sl v) m ≡ free_session f m
  written_session = same-session f (written f sl v) (written_sessions f sl v)

  pub written_reg : (k : ℕ) → reg (written f sl v) k ≡ reg f k
  written_reg = same_reg f (written f sl v) (written_sessions f sl v)

  pub written_ready : Ready f → Ready (written f sl v)
  written_ready = ready_from f (written f sl v) (written_sessions f sl v) (written_globals f sl v)

module _ {n : ℕ} {f g : Free} (o : OnlyRegs n f g) where
  both_records : (sl : Slot) (v : ℕ) → (written g sl v).records ≡ (written f sl v).records
  unfolding with_record record_at
  both_records top v = o.records
  both_records (field q i) v = rw o.records

  both_globals : (sl : Slot) (v : ℕ) → (written g sl v).globals ≡ (written f sl v).globals
  unfolding with_record
  both_globals top v = rw o.globals
  both_globals (field q i) v = o.globals

  pub only_written : (sl : Slot) (v : ℕ) → OnlyRegs n (written f sl v) (written g sl v)
  only_written sl v =
      let a = written_session f sl v in
      let b = written_session g sl v in
      record {
        records = both_records sl v;
        globals = both_globals sl v;
        others = λ m d. b m ∙ o.others m d ∙ sym (a m);
        attached = rw (a own_session, b own_session) o.attached;
        sessions = rw (written_sessions f sl v, written_sessions g sl v) o.sessions;
        registers = rw (a own_session, b own_session) o.registers;
        above = λ k l. rw (a own_session, b own_session) (o.above k l);
      }
