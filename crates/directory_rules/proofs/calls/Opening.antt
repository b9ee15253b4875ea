-- Open: the session gets attached, and nothing else changes.
use Prim.Native.Nat.{ℕ}
use mathlib.Core.Path.{◌≡◌, refl, ap, ◌∙◌}
use mathlib.Core.Bool.{Bool, true, false, not}
use native.Mathlib.Nat.{le_refl}
use native.Mathlib.Omega.{arith}
use lib.ListN.{length, length-set, get_or}
use lib.Seq.{get_or-set_same, get_or-set_other}
use Rattle.rules.specs.Memory.{null}
use Rattle.rules.specs.Control.{register_count}
use Rattle.rules.specs.Refusals.{passed, check, answer, ◌>>◌ as ◌>>>◌}
use Rattle.rules.specs.Free.{Free, FreeSession, free_session, free_register, free_nobody, free_absent, free_attach, record_at, with_free_attached, with_free_session}
use Rattle.rules.specs.Answers.{Refused, Done}
use Rattle.rules.proofs.memory.Lists.{zeros}
use Rattle.directory_rules.specs.Table.{Open, Table, opened_table, open_already, nothing, table_next}
use Rattle.directory_rules.specs.Acts.{own_session, attach, give, must, ◌>>◌}
use Rattle.directory_rules.specs.Directory.{program}
use Rattle.directory_rules.proofs.free.Perform.{free_ask, free_perform}
use Rattle.directory_rules.proofs.free.Must.{must-done, must-refused}
use Rattle.directory_rules.proofs.chains.Core.{SoundStore, Layout, Core, Represents}
use Rattle.directory_rules.proofs.chains.SoundStore.{good_from, apart_from}
use Rattle.directory_rules.proofs.chains.Frame.{core_frame}
use Rattle.directory_rules.proofs.calls.Kept.{Kept, RequestKept}

-- the chains don't look at whether the directory is open
core_opened : {f : Free} {y : Layout} {t : Table} → Core f y t → Core f y (opened_table t)
core_opened c = record {
  store = c.store;
  sound = record { people = c.sound.people; groups = c.sound.groups; small = c.sound.small; members = c.sound.members; low = c.sound.low; unknown = c.sound.unknown };
  entries = c.entries;
  groups = c.groups;
  people = c.people;
  linked = c.linked;
}

-- ---- the session newly attached

abbrev attached : Free → Free
attached f = with_free_session f own_session (with_free_attached free_nobody true)

module _ {f : Free} {y : Layout} {t : Table} (r : Represents f y t) where
  own_session_lem : free_session (attached f) own_session ≡ with_free_attached free_nobody true
  unfolding free_session
  own_session_lem = get_or-set_same f.sessions own_session _ free_absent (rw r.core.store.shaped.sessions (omega arith))

  attached-sound : SoundStore (attached f) y.label
  unfolding free_session record_at
  attached-sound = record {
    shaped = record {
      sessions = length-set f.sessions own_session _ ∙ r.core.store.shaped.sessions;
      registers = ap (λ (x : FreeSession). length x.registers) own_session_lem;
      globals = r.core.store.shaped.globals;
    };
    own = λ q d. good_from (le_refl _) refl refl (r.core.store.own q d);
    apart = apart_from r.core.store.apart (λ m d. get_or-set_other f.sessions own_session m _ free_absent d) (λ k d. refl) (λ q n e. refl) (λ q e. e) (λ v x. x);
  }

  opened_represents : Represents (attached f) y (opened_table t)
  unfolding record_at free_register
  opened_represents = record {
    core = core_opened (core_frame r.core {lab = y.label} attached-sound refl (λ q d. refl) (λ q d. refl));
    opened = ap (λ (x : FreeSession). x.attached) own_session_lem;
    cleared = λ k. ap (λ (x : FreeSession). get_or x.registers k null) own_session_lem ∙ zeros register_count k;
  }

module _ (fed : ℕ) (f : Free) (share : ℕ) where
  attach_again : (free_session f own_session).attached ≡ true → free_ask fed f (attach share) ≡ record { store = f; reply = answer (Refused open_already) }
  unfolding free_attach
  attach_again e = rw e

  attach-first : (free_session f own_session).attached ≡ false → free_ask fed f (attach share) ≡ record { store = attached f; reply = answer Done }
  unfolding free_attach
  attach-first e = rw e

  open_kept : {y : Layout} {t : Table} → Represents f y t
      → Kept y (Open share) t (check (not t.opened) open_already >>> passed (opened_table t)) (free_perform fed f (must (attach share) >> give nothing))
  open_kept {y} {t} r = go t.opened refl
    where
      go : (b : Bool) → t.opened ≡ b → Kept y (Open share) t (check (not b) open_already >>> passed (opened_table t)) (free_perform fed f (must (attach share) >> give nothing))
      go true e = rw (must-refused fed f (attach share) (λ u. give nothing) (attach_again (r.opened ∙ e)))
          (record { given = refl; layout = y; stays = λ q o. o; represents = r })
      go false e = rw (must-done fed f (attach share) (λ u. give nothing) (attach-first (r.opened ∙ e)))
          (record { given = refl; layout = y; stays = λ q o. o; represents = opened_represents r })

pub opening-kept : (half fed share : ℕ) {f : Free} {y : Layout} {t : Table} → Represents f y t → RequestKept half fed f y t (Open share)
unfolding program table_next
opening-kept half fed share {f} r = open_kept fed f share r
