-- A call from its safe point to its cleared registers: what is shown of the act between them is shown of the call.
use Prim.Native.Nat.{ℕ, ◌≤◌}
use mathlib.Core.Path.{◌≡◌, refl, sym, ◌∙◌}
use mathlib.Core.Bool.{Bool, true, false}
use Rattle.rules.specs.Control.{register_count}
use Rattle.rules.specs.Refusals.{Tested, check, answer, ◌>>◌ as ◌>>>◌}
use Rattle.rules.specs.Free.{Free, free_session, free_session_of}
use Rattle.rules.specs.Answers.{Refused, Done}
use Rattle.directory_rules.specs.Table.{Request, Table, Given, nothing, not_open, given_by}
use Rattle.directory_rules.specs.Acts.{own_session, safe_point, Act, give, ◌>>◌, must, ending, Performed}
use Rattle.directory_rules.specs.Directory.{plainly}
use Rattle.directory_rules.proofs.free.Perform.{free_ask, free_perform}
use Rattle.directory_rules.proofs.free.Registers.{nulled, nulled_all, nulled_zero}
use Rattle.directory_rules.proofs.free.Must.{must-done, must-refused}
use Rattle.directory_rules.proofs.free.Sequence.{then_passed, then_refused, ending_clears}
use Rattle.directory_rules.proofs.chains.Core.{Layout, Represents, Stays}
use Rattle.directory_rules.proofs.chains.Registers.{core_regs}
use Rattle.directory_rules.proofs.calls.Kept.{Kept, Within, within_ready, within_start}
use Rattle.directory_rules.proofs.calls.Alike.{Alike, refuse, pass}

-- an act that isn't refused: its result, and the table carried
pub record Result {A : Type 0} (y : Layout) (value : Table → A) (n : ℕ) (g : Free) (x : A) (t : Table) : Type 0 where
  pub is : x ≡ value t
  pub layout : Layout
  pub stays : Stays y layout
  pub within : Within n g layout t

-- an act with no result but that
abbrev pub Carries : ℕ → Layout → Table → Performed Free (Unit {0}) → Tested Table → Type 0
Carries n y t p next = Alike n y t (Result y (λ u. tt) n) p next

within-cleared : {n : ℕ} {g : Free} {u : Table} {z : Layout} → n ≤ register_count → Within n g z u → Represents (nulled n 0 g) z u
within-cleared {n} few h =
    let o = nulled_zero n h.core.store.shaped in
    record {
      core = core_regs o h.core;
      opened = o.attached ∙ h.attached ∙ sym h.opened;
      cleared = nulled_all n few h.core.store.shaped h.above;
    }

safe_open : (fed : ℕ) (f : Free) → (free_session f own_session).attached ≡ true → free_ask fed f safe_point ≡ record { store = f; reply = answer Done }
unfolding free_session_of
safe_open fed f e = rw e

safe_shut : (fed : ℕ) (f : Free) → (free_session f own_session).attached ≡ false → free_ask fed f safe_point ≡ record { store = f; reply = answer (Refused not_open) }
unfolding free_session_of
safe_shut fed f e = rw e

module _ {n : ℕ} {y : Layout} {t : Table} (fed : ℕ) (f : Free) where
  pub alike_plainly : (a : Act (Unit {0})) {tn : Tested Table} → Carries n y t (free_perform fed f a) tn
      → Alike n y t (Result y (λ u. nothing) n) (free_perform fed f (plainly a)) tn
  alike_plainly a (refuse e h) = refuse (then_refused fed f a (λ u. give nothing) e) h
  alike_plainly a (pass e r) = pass (then_passed fed f a (λ u. give nothing) e) (record { is = refl; layout = r.layout; stays = r.stays; within = r.within })

  kept-ending : (q : Request) → n ≤ register_count → (a : Act Given) {tn : Tested Table} → Alike n y t (Result y (given_by q) n) (free_perform fed f a) tn
      → Kept y q t tn (free_perform fed f (ending n a))
  kept-ending q few a (refuse e h) = rw (ending_clears fed f n a e (within_ready h) few)
      (record { given = refl; layout = y; stays = λ p o. o; represents = within-cleared few h })
  kept-ending q few a (pass e r) = rw (ending_clears fed f n a e (within_ready r.within) few)
      (record { given = r.is; layout = r.layout; stays = r.stays; represents = within-cleared few r.within })

  pub around : (q : Request) → n ≤ register_count → (a : Act Given) {tn : Tested Table} → Represents f y t
      → (Within n f y t → Alike n y t (Result y (given_by q) n) (free_perform fed f a) tn)
      → Kept y q t (check t.opened not_open >>> tn) (free_perform fed f (must safe_point >> ending n a))
  around q few a {tn} r c = go t.opened refl
    where
      go : (b : Bool) → t.opened ≡ b → Kept y q t (check b not_open >>> tn) (free_perform fed f (must safe_point >> ending n a))
      go true e = rw (must-done fed f safe_point (λ u. ending n a) (safe_open fed f (r.opened ∙ e))) (kept-ending q few a (c (within_start r e n)))
      go false e = rw (must-refused fed f safe_point (λ u. ending n a) (safe_shut fed f (r.opened ∙ e)))
          (record { given = refl; layout = y; stays = λ p o. o; represents = r })
