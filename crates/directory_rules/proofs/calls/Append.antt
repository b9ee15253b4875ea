-- A new person or link behind the last of its chain.
use Prim.Native.Nat.{ℕ, ◌≤◌}
use mathlib.Core.Path.{◌≡◌, refl, ◌∙◌}
use mathlib.Core.Bool.{Bool, true}
use native.Mathlib.Omega.{arith}
use lib.Dec.{eqb}
use borrow.Author.Tests.{ne_eqb}
use Rattle.rules.specs.Control.{register_count}
use Rattle.rules.specs.Refusals.{passed, check, ◌>>◌ as ◌>>>◌}
use Rattle.rules.specs.Free.{Free}
use Rattle.rules.proofs.memory.Cases.{eq_or}
use Rattle.directory_rules.specs.Table.{Table}
use Rattle.directory_rules.specs.Directory.{place, fresh, link, append, group_register, other_of}
use Rattle.directory_rules.specs.declared.Via.{Via}
use Rattle.directory_rules.proofs.free.Session.{Ready}
use Rattle.directory_rules.proofs.free.Slots.{Slot, slot_of, written, grow, new_place, There}
use Rattle.directory_rules.proofs.free.Registers.{only_there}
use Rattle.directory_rules.proofs.free.Held.{grow_there}
use Rattle.directory_rules.proofs.free.Commute.{only_written, written_reg, written_ready}
use Rattle.directory_rules.proofs.free.Grown.{grown, grown_only, grown_ready, grown-at, grown_other}
use Rattle.directory_rules.proofs.free.Perform.{free_perform}
use Rattle.directory_rules.proofs.free.Steps.{link-step, fresh_grows, fresh-refused}
use Rattle.directory_rules.proofs.free.Sequence.{then_passed, then_refused}
use Rattle.directory_rules.proofs.chains.Core.{Layout, Core, Stays}
use Rattle.directory_rules.proofs.chains.Registers.{core_regs}
use Rattle.directory_rules.proofs.walks.Slots.{slot_same}
use Rattle.directory_rules.proofs.calls.Kept.{Within, within_ready}
use Rattle.directory_rules.proofs.calls.Alike.{refuse, pass}
use Rattle.directory_rules.proofs.calls.Around.{Carries}

module _ {m : ℕ} {f : Free} {y : Layout} {t : Table} (within : Within m f y t) (two : 2 ≤ m) (few : m ≤ register_count) (at : ℕ) (via : Via) (n : ℕ) (low : at ≤ 1)
    {sl : Slot} (slot : slot_of f at via ≡ sl) (there : There f sl) {z : Layout} (stays : Stays y z) {u : Table} (is_open : u.opened ≡ true)
    (core : Core (written (grow f 1 n) sl (new_place f)) z u) where
  ready : Ready f
  ready = within_ready within

  -- the store with the new record in the register at hand
  abbrev new : Free
  new = grown ready at 1 n

  linked : free_perform 0 new (link at via at) ≡ record { store = written new sl (new_place f); result = passed tt }
  linked = link-step 0 (grown_ready ready at 1 n (omega arith)) at via at low (omega arith)
      (slot_same f new at via (grown_other ready at 1 n (other_of at) (λ e. omega arith)) (grown_other ready at 1 n group_register (λ e. omega arith)) ∙ slot)
      (grown-at ready at 1 n (omega arith)) (only_there (grown_only ready at 1 n m (omega arith)) sl (grow_there f 1 n sl there))

  ends : Within m (written new sl (new_place f)) z u
  ends = record {
    core = core_regs (only_written (grown_only ready at 1 n m (omega arith)) sl (new_place f)) core;
    attached = (written_ready new sl (new_place f) (grown_ready ready at 1 n (omega arith))).attached;
    opened = is_open;
    above = λ k l. written_reg new sl (new_place f) k ∙ grown_other ready at 1 n k (λ e. omega arith) ∙ within.above k l;
  }

  -- the call's end: the record is there, or was refused
  pub append_ends : (fed : ℕ) (b : Bool) (left : ℕ)
      → Carries m y t (free_perform fed f (append (place b at via left) n)) (check (eqb fed 0) fed >>> passed u)
  unfolding append
  append_ends fed b left = eq_or fed 0
      (λ e. rw e (pass (then_passed 0 f (fresh at 1 n) (λ x. link at via at) (fresh_grows ready at 1 n (omega arith) (omega arith)) ∙ linked)
      (record { is = refl; layout = z; stays = stays; within = ends })))
      (λ d. rw (ne_eqb fed 0 d)
      (refuse (then_refused fed f (fresh at 1 n) (λ x. link at via at) (fresh-refused d ready at 1 n (omega arith) (omega arith))) within))
