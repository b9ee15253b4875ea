-- Groups of the invariant in the phases in which they ask nothing, or little.
use Prim.Native.Nat.{ℕ, ◌≤◌, ◌<◌}
use mathlib.Core.Path.{◌≡◌}
use mathlib.Core.Logic.{◌≢◌}
use mathlib.Core.List.{List}
use native.Mathlib.Omega.{arith}
use lib.ListN.{get_or}
use Rattle.rules.specs.Memory.{Memory, null, word_of, white, colour, replica}
use Rattle.rules.specs.declared.Session.{Session}
use Rattle.rules.proofs.memory.Walk.{Walk}
use Rattle.rules.proofs.invariant.Stages.{st_rest, st_pre_mark1, st_heap_mark, st_allocate, st_copy, st_stack_flip, st_reclaim}
use Rattle.rules.proofs.invariant.Words.{In, Names, reg}
use Rattle.rules.proofs.invariant.Groups.{RootHalves, Agreement, NoFlip}
use Rattle.rules.proofs.invariant.Marking.{Colours, GreyList, Cleaned, Walking}

pub list_idle : {M : Memory} {cur st : ℕ} {ws : List ℕ} {head tail : ℕ} → ¬ ((st_rest < st) × (st ≤ st_heap_mark)) → GreyList M cur st ws head tail
list_idle n = record {
  listed = λ a b. absurd (n (a, b));
  finished = λ a b. absurd (n (a, b));
  unfinished = λ a b. absurd (n (a, b));
  found = λ a b. absurd (n (a, b));
  once = λ a b. absurd (n (a, b));
  room = λ a b. absurd (n (a, b));
}

pub cleaned_idle : {M : Memory} {cur st place wf : ℕ} {ws : List ℕ} {head tail : ℕ} {xs : List Session} {gs : List ℕ}
    → ¬ ((st_pre_mark1 < st) × (st ≤ st_stack_flip)) → Cleaned M cur st place wf ws head tail xs gs
cleaned_idle n = record {
  fields = λ a b. absurd (n (a, b));
  scanning = λ a. absurd (n (omega arith, omega arith));
  scanned-within = λ a. absurd (n (omega arith, omega arith));
  globals-below = λ a. absurd (n (omega arith, omega arith));
  globals = λ a b. absurd (n (omega arith, b));
  scanned = λ a. absurd (n (omega arith, omega arith));
  registers = λ a b. absurd (n (omega arith, b));
}

-- the phases without a walk over records or the list
pub walking_idle : {M : Memory} {cur st place wf head tail : ℕ} → st ≢ st_heap_mark → st ≢ st_allocate → st ≢ st_copy → st ≢ st_reclaim → Walking M cur st place wf head tail
walking_idle a b c d = record {
  at_allocate = λ o. absurd (b o);
  at_copy = λ o. absurd (c o);
  at_reclaim = λ o. absurd (d o);
  field-heap_mark = λ o. absurd (a o);
  field_copy = λ o. absurd (c o);
  field-copy-end = λ o. absurd (c o);
  cleared = λ o. absurd (d o);
}

-- up to HeapMark only that its field is 0 where the list is done
pub walking_early : {M : Memory} {cur st place wf head tail : ℕ} → st ≤ st_heap_mark → (st ≡ st_heap_mark → head ≡ tail → wf ≡ 0) → Walking M cur st place wf head tail
walking_early l d = record {
  at_allocate = λ e. absurd (omega arith);
  at_copy = λ e. absurd (omega arith);
  at_reclaim = λ e. absurd (omega arith);
  field-heap_mark = d;
  field_copy = λ e. absurd (omega arith);
  field-copy-end = λ e. absurd (omega arith);
  cleared = λ e. absurd (omega arith);
}

-- in Reclaim the walk over the records, those passed cleared
pub walking-reclaim : {M : Memory} {cur st place wf head tail : ℕ} → st ≡ st_reclaim → Walk M cur place
    → ((v : ℕ) → In M cur v → word_of v < place → replica M v ≡ null) → Walking M cur st place wf head tail
walking-reclaim e w c = record {
  at_allocate = λ a. absurd (omega arith);
  at_copy = λ a. absurd (omega arith);
  at_reclaim = λ a. w;
  field-heap_mark = λ a. absurd (omega arith);
  field_copy = λ a. absurd (omega arith);
  field-copy-end = λ a. absurd (omega arith);
  cleared = λ a. c;
}

-- where no field need agree
pub agreement_early : {M : Memory} {cur st place wf : ℕ} → st < st_copy → Agreement M cur st place wf
agreement_early l = record {
  refs_agree = λ lo hi v i t n b c. absurd (omega arith);
  plains_agree = λ lo hi v i t n b c. absurd (omega arith);
}

pub agreement_late : {M : Memory} {cur st place wf : ℕ} → st_stack_flip < st → Agreement M cur st place wf
agreement_late l = record {
  refs_agree = λ lo hi v i t n b c. absurd (omega arith);
  plains_agree = λ lo hi v i t n b c. absurd (omega arith);
}

-- Reclaim asks that all is white
pub colours_reclaim : {M : Memory} {cur st place : ℕ} → st ≡ st_reclaim → ((v : ℕ) → In M cur v → colour M v ≡ white) → Colours M cur st place
colours_reclaim e w = record {
  at_rest = λ a. absurd (omega arith);
  at_reclaim = λ a. w;
  none_black = λ a. absurd (omega arith);
  none_grey = λ a b. absurd (omega arith);
  replicas_white = λ a. absurd (omega arith);
  paired_marked = λ a. absurd (omega arith);
  shelled_below = λ a. absurd (omega arith);
  shelled = λ a b. absurd (omega arith);
}

-- outside the flips every root names the current half
pub roots_home : {cur st place : ℕ} {xs : List Session} {gs : List ℕ} → NoFlip st
    → ((n k : ℕ) → Names cur (reg xs n k)) → ((g : ℕ) → Names cur (get_or gs g null)) → RootHalves cur st place xs gs
roots_home a r g = record {
  regs = λ o. r;
  globals = λ o. g;
  flipping = λ o. absurd (omega (arith, a (omega arith)));
  flipped = λ lo hi. absurd (omega (arith, a (omega arith)));
  marked = λ o. absurd (omega (arith, a (omega arith)));
}
