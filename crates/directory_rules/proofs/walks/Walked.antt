-- What a walk over a chain leaves: the records that it passed, those from the record at hand on, and why it stopped there.
use Prim.Native.Nat.{ℕ, suc, ◌-◌, ◌≤◌, ◌<◌}
use mathlib.Core.Path.{◌≡◌, refl, sym, ap, ◌∙◌}
use mathlib.Core.Logic.{◌≢◌}
use mathlib.Core.Bool.{Bool, true, false}
use mathlib.Core.List.Memᴰ
use mathlib.Core.List.{List, [], ◌∷◌, ◌++◌, Memᴰ}
use native.Mathlib.Nat.{sub-zero, suc-sub-suc}
use lib.ListN.{length}
use Rattle.rules.specs.Refusals.{passed}
use Rattle.rules.specs.Free.{Free}
use Rattle.rules.proofs.memory.Cases.{either}
use Rattle.directory_rules.specs.Acts.{Performed}
use Rattle.directory_rules.specs.Directory.{next_field, place}
use Rattle.directory_rules.specs.declared.Via.{Via}
use Rattle.directory_rules.specs.declared.Place.{Place}
use Rattle.directory_rules.proofs.free.Session.{reg, OnlyRegs}
use Rattle.directory_rules.proofs.free.Registers.{only_same, only_then, only_held, only_number}
use Rattle.directory_rules.proofs.free.Slots.{Slot, field, held, number_at, slot_after, slot_of}

-- the records from the one at hand on, and whether that is the one looked for
pub data Stopped (f : Free) (key least : ℕ) : List ℕ → Bool → Type 0 where
  at_key : {q : ℕ} {ys : List ℕ} → number_at f q ≡ key → Stopped f key least (q ∷ ys) true
  at_low : {q : ℕ} {ys : List ℕ} → number_at f q ≢ key → number_at f q < least → Stopped f key least (q ∷ ys) false
  at-end : Stopped f key least [] false

pub record Walked (f : Free) (sl : Slot) (qs : List ℕ) (key least left : ℕ) (p : Performed Free Place) : Type 0 where
  pub after : Free
  pub found : Bool
  pub at : ℕ
  pub via : Via
  pub xs : List ℕ
  pub ys : List ℕ
  pub ended : p ≡ record { store = after; result = passed (place found at via (left - length xs)) }
  pub regs : OnlyRegs 2 f after
  pub low : at ≤ 1
  pub split : qs ≡ xs ++ ys
  pub passed_by : (q : ℕ) → Memᴰ q xs → (number_at f q ≢ key) × (least ≤ number_at f q)
  pub slot : slot_of after at via ≡ slot_after sl xs
  pub here : reg after at ≡ held f (slot_after sl xs)
  pub stopped : Stopped f key least ys found

-- what the walk gives
abbrev pub place_of : {f : Free} {sl : Slot} {qs : List ℕ} {key least left : ℕ} {p : Performed Free Place} → Walked f sl qs key least left p → Place
place_of {left = left} w = place w.found w.at w.via (left - length w.xs)

-- ---- a walk by its parts

-- it ends at the record at hand
pub walked_here : {f : Free} {sl : Slot} {qs : List ℕ} {key least left : ℕ} {p : Performed Free Place} {found : Bool} {at : ℕ} {via : Via} → at ≤ 1
    → slot_of f at via ≡ sl → reg f at ≡ held f sl → Stopped f key least qs found → p ≡ record { store = f; result = passed (place found at via left) }
    → Walked f sl qs key least left p
walked_here {f} {sl} {qs} {key} {least} {left} {p} {found} {at} {via} low slot here stopped e = record {
  after = f;
  found = found;
  at = at;
  via = via;
  xs = [];
  ys = qs;
  ended = rw sub-zero e;
  regs = only_same 2 f;
  low = low;
  split = refl;
  passed_by = λ q m. absurd (Memᴰ.not-nil m);
  slot = slot;
  here = here;
  stopped = stopped;
}

-- one record more before it
pub walked_on : {f : Free} {sl : Slot} {q : ℕ} {qs : List ℕ} {key least left : ℕ} {p : Performed Free Place} → number_at f q ≢ key → least ≤ number_at f q
    → Walked f (field q next_field) qs key least left p → Walked f sl (q ∷ qs) key least (suc left) p
walked_on {f} {sl} {q} {qs} {key} {least} {left} other high w = record {
  after = w.after;
  found = w.found;
  at = w.at;
  via = w.via;
  xs = q ∷ w.xs;
  ys = w.ys;
  ended = rw suc-sub-suc w.ended;
  regs = w.regs;
  low = w.low;
  split = ap (λ (l : List ℕ). q ∷ l) w.split;
  passed_by = λ u m. either (Memᴰ.cases_cons m) (λ e. rw e (other, high)) (w.passed_by u);
  slot = w.slot;
  here = w.here;
  stopped = w.stopped;
}

stopped_from : {n : ℕ} {f g : Free} → OnlyRegs n f g → {key least : ℕ} {ys : List ℕ} {found : Bool} → Stopped g key least ys found → Stopped f key least ys found
stopped_from o (at_key {q} e) = at_key (sym (only_number o q) ∙ e)
stopped_from o (at_low {q} d l) = at_low (λ e. d (only_number o q ∙ e)) (rw (only_number o q) at l)
stopped_from o at-end = at-end

-- after calls that changed its own registers
pub walked_from : {f g : Free} {sl : Slot} {qs : List ℕ} {key least left : ℕ} {p p' : Performed Free Place} → OnlyRegs 2 f g → p ≡ p'
    → Walked g sl qs key least left p' → Walked f sl qs key least left p
walked_from {sl = sl} o e w = record {
  after = w.after;
  found = w.found;
  at = w.at;
  via = w.via;
  xs = w.xs;
  ys = w.ys;
  ended = e ∙ w.ended;
  regs = only_then o w.regs;
  low = w.low;
  split = w.split;
  passed_by = λ q m. rw (only_number o q) at (w.passed_by q m);
  slot = w.slot;
  here = w.here ∙ only_held o (slot_after sl w.xs);
  stopped = stopped_from o w.stopped;
}
