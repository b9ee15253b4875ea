-- The chains don't look at the registers of the directory's session.
use Prim.Native.Nat.{ℕ}
use mathlib.Core.Path.{refl, ap}
use mathlib.Core.List.{List}
use native.Mathlib.Nat.{le_refl}
use lib.ListN.{get_or, length}
use Rattle.rules.specs.Memory.{null}
use Rattle.rules.specs.Free.{Free}
use Rattle.directory_rules.specs.Table.{Table}
use Rattle.directory_rules.proofs.free.Session.{OnlyRegs}
use Rattle.directory_rules.proofs.free.Slots.{Slot, top, field}
use Rattle.directory_rules.proofs.free.Registers.{only_shaped, only_record_at, only_held}
use Rattle.directory_rules.proofs.chains.Chain.{Chain}
use Rattle.directory_rules.proofs.chains.Laws.{chain_label, chain_frame}
use Rattle.directory_rules.proofs.chains.Core.{Owned, SoundStore, Layout, Core}
use Rattle.directory_rules.proofs.chains.SoundStore.{good_from, apart_from}
use Rattle.directory_rules.proofs.chains.Frame.{core_frame}

module _ {n : ℕ} {f g : Free} (o : OnlyRegs n f g) where
  pub only_chain : {lab : ℕ → ℕ} {l : ℕ} {sl : Slot} {qs : List ℕ} → Chain f lab l sl qs → Chain g lab l sl qs
  only_chain {sl = sl} c = chain_frame c (only_held o sl) (λ q m. only_held o (field q _)) (λ q m. chain_label c m)

  pub only_owned : {lab : ℕ → ℕ} → Owned f lab → Owned g lab
  only_owned own q d =
      good_from (rw o.records (le_refl _)) (ap (λ x. x.plains) (only_record_at o q)) (ap (λ x. length x.refs) (only_record_at o q)) (own q d)

  sound_regs : {lab : ℕ → ℕ} → SoundStore f lab → SoundStore g lab
  sound_regs h = record {
    shaped = only_shaped o h.shaped;
    own = only_owned h.own;
    apart = apart_from h.apart o.others (λ k d. ap (λ x. get_or x k null) o.globals) (λ q i e. only_record_at o q) (λ q e. e) (λ v x. rw o.records x);
  }

  pub core_regs : {y : Layout} {t : Table} → Core f y t → Core g y t
  core_regs {y} c = core_frame c {lab = y.label} (sound_regs c.store) (only_held o top) (λ q l. only_record_at o q) (λ q l. refl)
