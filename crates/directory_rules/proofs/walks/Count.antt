-- The walks of a list: how many records the chain has, and the words of the first of them.
use Prim.Native.Nat.{ℕ, zero, suc, ◌+◌, ◌≤◌}
use mathlib.Core.Path.{◌≡◌, refl, sym, ap, ◌∙◌}
use mathlib.Core.Logic.{◌≢◌}
use mathlib.Core.List.{List, ◌∷◌, map}
use native.Mathlib.Nat.{add-zero}
use native.Mathlib.Omega.{arith}
use lib.ListN.{length, take}
use Rattle.rules.specs.Refusals.{passed}
use Rattle.rules.specs.Free.{Free}
use Rattle.directory_rules.specs.Acts.{load, give, ◌>>=◌, ◌>>◌, must, Performed}
use Rattle.directory_rules.specs.Directory.{next_field, none_counted, counted, counting, taken, taking}
use Rattle.directory_rules.proofs.free.Perform.{free_perform}
use Rattle.directory_rules.proofs.free.Session.{reg, set_reg, Ready, OnlyRegs}
use Rattle.directory_rules.proofs.free.Registers.{reg_held, set_only, only_same, only_then, only_ready, only_number}
use Rattle.directory_rules.proofs.free.Sequence.{then_passed}
use Rattle.directory_rules.proofs.free.Slots.{Slot, field, held, number_at}
use Rattle.directory_rules.proofs.chains.Chain.{Chain, ends, goes}
use Rattle.directory_rules.proofs.chains.Core.{Good, Owned, others_label}
use Rattle.directory_rules.proofs.chains.SoundStore.{good_at}
use Rattle.directory_rules.proofs.chains.Registers.{only_owned, only_chain}
use Rattle.directory_rules.proofs.walks.Reading.{reads_end, reads_word, loads_next}

-- an act that gave a result and changed at most register 0
pub record Gave {A : Type 0} (f : Free) (x : A) (p : Performed Free A) : Type 0 where
  pub after : Free
  pub ended : p ≡ record { store = after; result = passed x }
  pub regs : OnlyRegs 1 f after

gave_here : {A : Type 0} {f : Free} {x y : A} {p : Performed Free A} → y ≡ x → p ≡ record { store = f; result = passed y } → Gave f x p
gave_here {f = f} same e =
    record { after = f; ended = e ∙ ap (λ y. record { store = f; result = passed y }) same; regs = only_same 1 f }

-- after calls that changed register 0
gave_from : {A : Type 0} {f g : Free} {x y : A} {p p' : Performed Free A} → OnlyRegs 1 f g → y ≡ x → p ≡ p' → Gave g y p' → Gave f x p
gave_from o same e w = record {
  after = w.after;
  ended = e ∙ w.ended ∙ ap (λ y. record { store = w.after; result = passed y }) same;
  regs = only_then o w.regs;
}

-- the next record in register 0
abbrev stepped : Free → ℕ → Free
stepped f q = set_reg f 0 (held f (field q next_field))

stepped_only : {f : Free} → Ready f → (q : ℕ) → OnlyRegs 1 f (stepped f q)
stepped_only {f} ready q = set_only f 0 (held f (field q next_field)) ready.shaped 1 (omega arith)

stepped-here : {f : Free} → Ready f → (q : ℕ) → reg (stepped f q) 0 ≡ held (stepped f q) (field q next_field)
stepped-here ready q = reg_held ready.shaped 0 (field q next_field) (omega arith)

-- the walks from a slot on that names the record at hand
module _ (fed : ℕ) {lab : ℕ → ℕ} {l : ℕ} (ours : l ≢ others_label) where
  counting_on : {f : Free} {sl : Slot} {qs : List ℕ} → Ready f → Owned f lab → Chain f lab l sl qs → reg f 0 ≡ held f sl → (left k : ℕ) → length qs ≤ left
      → Gave f (k + length qs) (free_perform fed f (counting left k))
  counting_on ready own (ends none) here zero k short =
      gave_here (sym (add-zero k)) (reads_end fed ready 0 (omega arith) (none_counted k) (here ∙ none))
  counting_on ready own (goes e some mine c) here zero k short = absurd (omega arith)
  counting_on ready own (ends none) here (suc left) k short =
      gave_here (sym (add-zero k)) (reads_end fed ready 0 (omega arith) (counted k (must (load 0 0 next_field) >> counting left (suc k))) (here ∙ none))
  counting_on {f} ready own (goes {sl} {q} {qs} e some mine c) here (suc left) k short =
      let good : Good _ q = good_at own ours mine in
      let o = stepped_only ready q in
      let more : suc k + length qs ≡ k + suc (length qs) = omega arith in
      gave_from o more
      (reads_word fed ready 0 (omega arith) (here ∙ e) good (counted k (must (load 0 0 next_field) >> counting left (suc k)))
      ∙ loads_next fed ready 0 (omega arith) (here ∙ e) good 0 (λ x. counting left (suc k)) (omega arith))
      (counting_on {f = stepped f q} (only_ready o ready) (only_owned o own) (only_chain o c) (stepped-here ready q) left (suc k) (omega arith))

  taking_on : (number : ℕ → ℕ) {f : Free} {sl : Slot} {qs : List ℕ} → Ready f → Owned f lab → Chain f lab l sl qs → reg f 0 ≡ held f sl
      → ((q : ℕ) → number_at f q ≡ number q) → (k : ℕ) → k ≤ length qs → Gave f (map number (take k qs)) (free_perform fed f (taking k))
  taking_on number ready own c here same zero few = gave_here refl refl
  taking_on number ready own (ends none) here same (suc k) few = absurd (omega arith)
  taking_on number {f} ready own (goes {sl} {q} {qs} e some mine c) here same (suc k) few =
      let good : Good f q = good_at own ours mine in
      let o = stepped_only ready q in
      let rest = taking_on number {f = stepped f q} (only_ready o ready) (only_owned o own) (only_chain o c) (stepped-here ready q) (λ u. only_number o u ∙ same u) k (omega arith) in
      record {
        after = rest.after;
        ended = reads_word fed ready 0 (omega arith) (here ∙ e) good (λ w. taken w >>= λ x. must (load 0 0 next_field) >> (taking k >>= λ xs. give (x ∷ xs)))
            ∙ loads_next fed ready 0 (omega arith) (here ∙ e) good 0 (λ x. taking k >>= λ xs. give (number_at f q ∷ xs)) (omega arith)
            ∙ then_passed fed (stepped f q) (taking k) (λ xs. give (number_at f q ∷ xs)) rest.ended
            ∙ ap (λ (y : ℕ). record { store = rest.after; result = passed (y ∷ map number (take k qs)) }) (same q);
        regs = only_then o rest.regs;
      }

module _ (fed : ℕ) {f : Free} (ready : Ready f) {lab : ℕ → ℕ} (own : Owned f lab) {l : ℕ} (ours : l ≢ others_label) {sl : Slot} {qs : List ℕ}
    (chain : Chain f lab l sl qs) (here : reg f 0 ≡ held f sl) where
  pub counting-counts : (left k : ℕ) → length qs ≤ left → Gave f (k + length qs) (free_perform fed f (counting left k))
  counting-counts left k short = counting_on fed ours ready own chain here left k short

  pub taking_takes : (k : ℕ) → k ≤ length qs → Gave f (map (number_at f) (take k qs)) (free_perform fed f (taking k))
  taking_takes k few = taking_on fed ours (number_at f) ready own chain here (λ q. refl) k few
