-- A change beside the directory, that touches none of its records, nor its global, nor its session, keeps what they carry.
use Prim.Native.Nat.{ℕ, ◌≤◌}
use mathlib.Core.Path.{◌≡◌, refl, ap, ◌∙◌}
use mathlib.Core.Logic.{◌≢◌}
use lib.ListN.{length}
use Rattle.rules.specs.Free.{Free, record_at, free_session}
use Rattle.directory_rules.specs.Table.{Table}
use Rattle.directory_rules.specs.Acts.{own_session}
use Rattle.directory_rules.proofs.free.Slots.{top, held}
use Rattle.directory_rules.proofs.chains.Core.{others_label, Owned, Apart, SoundStore, Layout, Represents}
use Rattle.directory_rules.proofs.chains.SoundStore.{good_from}
use Rattle.directory_rules.proofs.chains.Frame.{core_frame}

pub record Aside (lab : ℕ → ℕ) (f f' : Free) : Type 0 where
  pub sessions : length f'.sessions ≡ length f.sessions
  pub session : free_session f' own_session ≡ free_session f own_session
  pub globals : length f'.globals ≡ length f.globals
  pub global : held f' top ≡ held f top
  pub longer : length f.records ≤ length f'.records
  pub records : (q : ℕ) → lab q ≢ others_label → record_at f' q ≡ record_at f q
  pub apart : Apart f' lab

-- the directory's records stay good
pub owned_aside : {lab : ℕ → ℕ} {f f' : Free} → Owned f lab → Aside lab f f' → Owned f' lab
owned_aside own a q ours = good_from a.longer (ap (λ x. x.plains) (a.records q ours)) (ap (λ x. length x.refs) (a.records q ours)) (own q ours)

sound_aside : {lab : ℕ → ℕ} {f f' : Free} → SoundStore f lab → Aside lab f f' → SoundStore f' lab
sound_aside s a = record {
  shaped = record { sessions = a.sessions ∙ s.shaped.sessions; registers = rw a.session s.shaped.registers; globals = a.globals ∙ s.shaped.globals };
  own = owned_aside s.own a;
  apart = a.apart;
}

pub represents_aside : {f f' : Free} {y : Layout} {t : Table} → Represents f y t → Aside y.label f f' → Represents f' y t
represents_aside {y = y} r a = record {
  core = core_frame r.core {lab = y.label} (sound_aside r.core.store a) a.global a.records (λ q ours. refl);
  opened = rw a.session r.opened;
  cleared = λ k. rw a.session (r.cleared k);
}
