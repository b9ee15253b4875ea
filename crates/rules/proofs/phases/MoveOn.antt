-- Moving on to the next phase: what carries over, and what entering the next phase needs beyond it.
use Prim.Native.Nat.{ℕ, suc, ◌≤◌, ◌<◌, zero-le}
use mathlib.Core.Path.{◌≡◌, refl}
use mathlib.Core.Logic.{◌≢◌, inr}
use mathlib.Core.Bool.{true}
use native.Mathlib.Omega.{arith}
use lib.ListN.{get_or}
use Rattle.rules.specs.Memory.{null, word_of, white, grey, colour, replica}
use Rattle.rules.specs.Control.{Store}
use Rattle.rules.specs.Cycle.{stage}
use Rattle.rules.specs.Phases.{other_half, level_of, next_phase, absent, unmarked, move_on}
use Rattle.rules.specs.Free.{Free}
use Rattle.rules.proofs.Ranges.{InRange}
use Rattle.rules.proofs.memory.Cases.{eq_or}
use Rattle.rules.proofs.memory.Walk.{walk-zero}
use Rattle.rules.proofs.invariant.Stages.{st_rest, st_pre_mark1, st_root_mark, st_heap_mark, st_allocate, st_copy, st_root_flip, st_stack_flip, stage-next}
use Rattle.rules.proofs.invariant.Words.{In, Names, Clean, reg}
use Rattle.rules.proofs.invariant.Groups.{Levels, RootHalves, FieldHalves, Pairs, Copied, over, earlier, here, Agreement}
use Rattle.rules.proofs.invariant.Marking.{Colours, GreyList, Cleaned, Walking, Kept}
use Rattle.rules.proofs.invariant.Sim.{Sim}
use Rattle.rules.proofs.invariant.Spans.{moves_on}
use Rattle.rules.proofs.invariant.Unmarked.{unmarked-attached, unmarked_level, unmarked_none, unmarked_reg, roots_unmarked}
use Rattle.rules.proofs.invariant.Range.{range_moved}
use Rattle.rules.proofs.invariant.Carried.{kept_carried}

-- every attached session has the phase's level
abbrev pub AllAt : Store → Type 0
AllAt s = (n : ℕ) → (get_or s.sessions n absent).attached ≡ true → (get_or s.sessions n absent).level ≡ level_of s.phase

-- what entering the phase after that of s needs beyond what carries over
pub record Entering (s : Store) : Type 0 where
  pub level : AllAt s
  pub emptied : stage s.phase ≡ st_rest → s.list.tail ≡ 0
  pub globals : stage s.phase ≡ st_root_mark → (g : ℕ) → Clean s.memory s.current (get_or s.globals g null)
  pub none_grey : stage s.phase ≡ st_heap_mark → (v : ℕ) → In s.memory s.current v → colour s.memory v ≢ grey
  pub registers : stage s.phase ≡ st_heap_mark → (n k : ℕ) → Clean s.memory s.current (reg s.sessions n k)
  pub shelled : stage s.phase ≡ st_allocate → (v : ℕ) → In s.memory s.current v → colour s.memory v ≢ white → replica s.memory v ≢ null
  pub copied : stage s.phase ≡ st_copy → (v : ℕ) → In s.memory s.current v → word_of v < s.walk.place
  pub flipped : stage s.phase ≡ st_root_flip → (g : ℕ) → Names (other_half s.current) (get_or s.globals g null)

-- so it has the level of the phase before the next
pub levels_on : {s : Store} → InRange s → AllAt s → Levels (next_phase s.phase) (unmarked s.sessions)
levels_on {s} r l = record {
  allowed = λ n a. inr (rw (unmarked_level s.sessions n, ← moves_on s.phase r.phases) (l n (rw (unmarked-attached s.sessions n) at a)));
}

module _ {K : ℕ → Type 0} {m : ℕ → ℕ} {s : Store} {f : Free} (h : Sim K m s f) (e : Entering s) (early : stage s.phase < st_stack_flip) where
  next : stage (next_phase s.phase) ≡ suc (stage s.phase)
  next = stage-next s.phase h.range.phases (omega arith)

  root_halves_on : RootHalves s.current (suc (stage s.phase)) 0 (unmarked s.sessions) s.globals
  root_halves_on = let r = h.root_halves in record {
    regs = λ a n k. rw (unmarked_reg s.sessions n k) (r.regs (λ b. omega (arith, a (omega arith))) n k);
    globals = λ a. r.globals (λ b. omega (arith, a (omega arith)));
    flipping = λ a g l. absurd (omega arith);
    flipped = λ a b g. eq_or (stage s.phase) st_root_flip (λ c. e.flipped c g) (λ c. r.flipped (omega arith) (omega arith) g);
    marked = λ a n k t b. absurd (unmarked_none s.sessions n b);
  }

  field_halves_on : FieldHalves s.memory s.current (suc (stage s.phase))
  field_halves_on = let r = h.field_halves in record {
    home = λ a. r.home (λ b. omega (arith, a (omega arith)));
    away = λ a. r.away (omega arith);
    away_ok = λ a. r.away_ok (omega arith);
  }

  pairs_on : Pairs s.memory m s.current (suc (stage s.phase))
  pairs_on = let r = h.pairs in record {
    pair = r.pair;
    home = λ a. r.home (omega arith);
    empty = λ a. r.empty (omega arith);
    spent = λ a. r.spent (omega arith);
  }

  -- a field that counts as copied in the next phase is copied
  copied_on : (v j : ℕ) → In s.memory s.current v → Copied (suc (stage s.phase)) 0 0 v j → Copied (stage s.phase) s.walk.place s.walk.field v j
  copied_on v j t (over l) = eq_or (stage s.phase) st_copy (λ a. earlier (e.copied a v t)) (λ a. over (omega arith))
  copied_on v j t (earlier l) = absurd (omega arith)
  copied_on v j t (here a l) = absurd (omega arith)

  begun : (v j : ℕ) → st_copy ≤ suc (stage s.phase) → Copied (suc (stage s.phase)) 0 0 v j → st_copy ≤ stage s.phase
  begun v j b (over l) = omega arith
  begun v j b (earlier l) = absurd (omega arith)
  begun v j b (here a l) = absurd (omega arith)

  agreement_on : Agreement s.memory s.current (suc (stage s.phase)) 0 0
  agreement_on = let r = h.agreement in record {
    refs_agree = λ a b v i t n l c. r.refs_agree (begun v i a c) (omega arith) v i t n l (copied_on v i t c);
    plains_agree = λ a b v i t n l c. r.plains_agree (begun v _ a c) (omega arith) v i t n l (copied_on v _ t c);
  }

  colours_on : Colours s.memory s.current (suc (stage s.phase)) 0
  colours_on = let r = h.colours in record {
    at_rest = λ a. absurd (omega arith);
    at_reclaim = λ a. absurd (omega arith);
    none_black = λ a v t b. omega (arith, r.at_rest (omega arith) v t);
    none_grey = λ a b v t. eq_or (stage s.phase) st_heap_mark (λ c. e.none_grey c v t) (λ c. r.none_grey (omega arith) (omega arith) v t);
    replicas_white = λ a. r.replicas_white (omega arith);
    paired_marked = λ a. r.paired_marked (omega arith);
    shelled_below = λ a v t l. absurd (omega arith);
    shelled = λ a b v t. eq_or (stage s.phase) st_allocate (λ c. e.shelled c v t) (λ c. r.shelled (omega arith) (omega arith) v t);
  }

  grey-list_on : GreyList s.memory s.current (suc (stage s.phase)) s.list.words s.list.head s.list.tail
  grey-list_on = let r = h.grey-list in eq_or (stage s.phase) st_rest
      (λ c. let z : s.list.tail ≡ 0 = e.emptied c in record {
        listed = λ a b i l. absurd (omega arith);
        finished = λ a b i l. absurd (omega (arith, h.range.begins));
        unfinished = λ a b i l o. absurd (omega arith);
        found = λ a b v t g. absurd (omega (arith, h.colours.at_rest c v t));
        once = λ a b i j l o. absurd (omega arith);
        room = λ a b. omega arith;
      })
      (λ c. record {
        listed = λ a b. r.listed (omega arith) (omega arith);
        finished = λ a b. r.finished (omega arith) (omega arith);
        unfinished = λ a b. r.unfinished (omega arith) (omega arith);
        found = λ a b. r.found (omega arith) (omega arith);
        once = λ a b. r.once (omega arith) (omega arith);
        room = λ a b. r.room (omega arith) (omega arith);
      })

  cleaned_on : Cleaned s.memory s.current (suc (stage s.phase)) 0 0 s.list.words s.list.head s.list.tail (unmarked s.sessions) s.globals
  cleaned_on = let r = h.cleaned in record {
    fields = λ a b v i t c. eq_or (stage s.phase) st_pre_mark1 (λ o. absurd (h.colours.none_black o v t c)) (λ o. r.fields (omega arith) (omega arith) v i t c);
    scanning = λ a l i o. absurd (omega arith);
    scanned-within = λ a l. zero-le;
    globals-below = λ a g l. absurd (omega arith);
    globals = λ a b g. eq_or (stage s.phase) st_root_mark (λ c. e.globals c g) (λ c. r.globals (omega arith) (omega arith) g);
    scanned = λ a n k t b. absurd (unmarked_none s.sessions n b);
    registers = λ a b n k. rw (unmarked_reg s.sessions n k) (eq_or (stage s.phase) st_heap_mark (λ c. e.registers c n k) (λ c. r.registers (omega arith) (omega arith) n k));
  }

  walking_on : Walking s.memory s.current (suc (stage s.phase)) 0 0 s.list.head s.list.tail
  walking_on = record {
    at_allocate = λ a. walk-zero s.memory s.current;
    at_copy = λ a. walk-zero s.memory s.current;
    at_reclaim = λ a. walk-zero s.memory s.current;
    field-heap_mark = λ a b. refl;
    field_copy = λ a b. zero-le;
    field-copy-end = λ a b. refl;
    cleared = λ a v t l. absurd (omega arith);
  }

  kept_on : Kept K s.memory m s.current (suc (stage s.phase)) f.records f.sessions f.globals
  kept_on = kept_carried
      (λ a b v t n. eq_or (stage s.phase) st_rest (λ c. absurd (n (h.colours.at_rest c v t))) (λ c. h.kept.marked (omega arith) (omega arith) v t n))
      (λ a. absurd (omega arith)) (λ a. absurd (omega arith)) h.kept

  pub moves : Sim K m (move_on s) f
  unfolding move_on
  moves = record {
    range = range_moved h.range;
    filled = h.filled;
    births = h.births;
    identity = h.identity;
    values = h.values;
    roots = roots_unmarked h.roots;
    levels = levels_on h.range e.level;
    root_halves = rw next root_halves_on;
    field_halves = rw next field_halves_on;
    pairs = rw next pairs_on;
    agreement = rw next agreement_on;
    colours = rw next colours_on;
    grey-list = rw next grey-list_on;
    cleaned = rw next cleaned_on;
    walking = rw next walking_on;
    kept = rw next kept_on;
  }
