-- The last move of each phase before StackFlip: what its rule has tested lets the store enter the next phase.
use Prim.Native.Nat.{ℕ, ◌≤◌, ◌<◌}
use mathlib.Core.Path.{◌≡◌, refl}
use mathlib.Core.Logic.{◌≢◌}
use mathlib.Core.Bool.{true}
use native.Mathlib.Omega.{arith}
use lib.ListN.{get_or, length, get_or-eq_default}
use Rattle.rules.specs.Memory.{null, word_of, frontier}
use Rattle.rules.specs.Control.{Store, with_list, global_count}
use Rattle.rules.specs.Cycle.{stage, last_phase, at_rest, at_root_mark, at_heap_mark, at_copy, at_root_flip}
use Rattle.rules.specs.Phases.{level_of, absent, move_on, lowest_unmarked}
use Rattle.rules.specs.Collector.{have_level}
use Rattle.rules.specs.Free.{Free}
use Rattle.rules.proofs.memory.Cases.{lt_or, bool_or}
use Rattle.rules.proofs.memory.Walk.{walk-done}
use Rattle.rules.proofs.invariant.Stages.{st_rest, st_root_mark, st_heap_mark, st_allocate, st_copy, st_root_flip, st_stack_flip, stage_of, phase-is}
use Rattle.rules.proofs.invariant.Words.{In, Clean, reg}
use Rattle.rules.proofs.invariant.Groups.{level_before}
use Rattle.rules.proofs.invariant.Protected.{covered_clean}
use Rattle.rules.proofs.invariant.Sim.{Sim}
use Rattle.rules.proofs.invariant.Idle.{list_idle, cleaned_idle, walking_idle}
use Rattle.rules.proofs.invariant.Range.{range_emptied}
use Rattle.rules.proofs.phases.Sessions.{all_at_lem, all_now, all_marked}
use Rattle.rules.proofs.phases.MoveOn.{AllAt, moves}

-- none of the phases that ask for more than what carries over
abbrev pub Plain : ℕ → Type 0
Plain st = (st ≢ st_rest) × (st ≢ st_root_mark) × (st ≢ st_heap_mark) × (st ≢ st_allocate) × (st ≢ st_copy) × (st ≢ st_root_flip) × (st < st_stack_flip)

module _ {K : ℕ → Type 0} {m : ℕ → ℕ} {s : Store} {f : Free} (h : Sim K m s f) where
  -- ---- levels: by the rule's test, or because the phase before had the same
  pub have_level_lem : have_level s ≡ true → AllAt s
  unfolding have_level
  have_level_lem l = all_at_lem (level_of s.phase) s.sessions l

  pub steady : (p : ℕ) → p ≤ last_phase → stage s.phase ≡ stage_of p → level_of p ≡ level_before p → AllAt s
  steady p b e l = all_now h.levels (rw (phase-is p h.range.phases b e) l)

  -- the walk is at the frontier: every record of the current half is below it
  passed-all : frontier s.memory s.current ≤ s.walk.place → (v : ℕ) → In s.memory s.current v → word_of v < s.walk.place
  passed-all d v t = walk-done d t.start t.side

  -- a global of a number above 31 is null
  past_globals : (g : ℕ) → global_count ≤ g → get_or s.globals g null ≡ null
  past_globals g l = get_or-eq_default s.globals null (omega (arith, h.roots.globals))

  -- ---- 0 Rest: the grey list emptied
  rest_empties : stage s.phase ≡ st_rest → Sim K m (with_list s s.list.words 0 0) f
  rest_empties e = record {
    range = range_emptied h.range;
    filled = h.filled;
    births = h.births;
    identity = h.identity;
    values = h.values;
    roots = h.roots;
    levels = h.levels;
    root_halves = h.root_halves;
    field_halves = h.field_halves;
    pairs = h.pairs;
    agreement = h.agreement;
    colours = h.colours;
    grey-list = list_idle (λ a. omega (arith, a.0));
    cleaned = cleaned_idle (λ a. omega (arith, a.0));
    walking = walking_idle (omega arith) (omega arith) (omega arith) (omega arith);
    kept = h.kept;
  }

  pub rest_moves : stage s.phase ≡ st_rest → Sim K m (move_on (with_list s s.list.words 0 0)) f
  unfolding level_of level_before
  rest_moves e = moves (rest_empties e)
      (record {
        level = steady at_rest (omega arith) e refl;
        emptied = λ o. refl;
        globals = λ o. absurd (omega arith);
        none_grey = λ o. absurd (omega arith);
        registers = λ o. absurd (omega arith);
        shelled = λ o. absurd (omega arith);
        copied = λ o. absurd (omega arith);
        flipped = λ o. absurd (omega arith);
      })
      (omega arith)

  -- ---- the phases that only wait for the level
  pub handshake_moves : Plain (stage s.phase) → have_level s ≡ true → Sim K m (move_on s) f
  handshake_moves p l = moves h
      (record {
        level = have_level_lem l;
        emptied = λ o. absurd (p.0 o);
        globals = λ o. absurd (p.1 o);
        none_grey = λ o. absurd (p.2 o);
        registers = λ o. absurd (p.2 o);
        shelled = λ o. absurd (p.3 o);
        copied = λ o. absurd (p.4 o);
        flipped = λ o. absurd (p.5 o);
      })
      p.6

  -- ---- 3 RootMark: every global has been shaded
  pub root_mark_moves : stage s.phase ≡ st_root_mark → global_count ≤ s.walk.place → Sim K m (move_on s) f
  unfolding level_of level_before
  root_mark_moves e l = moves h
      (record {
        level = steady at_root_mark (omega arith) e refl;
        emptied = λ o. absurd (omega arith);
        globals = λ o g. lt_or g global_count (λ b. h.cleaned.globals-below e g (omega arith)) (λ b n. absurd (n (past_globals g b)));
        none_grey = λ o. absurd (omega arith);
        registers = λ o. absurd (omega arith);
        shelled = λ o. absurd (omega arith);
        copied = λ o. absurd (omega arith);
        flipped = λ o. absurd (omega arith);
      })
      (omega arith)

  -- ---- 4 HeapMark: the list is done, so nothing is grey, and nothing grey-protected; all attached sessions are scanned
  scanned-all : stage s.phase ≡ st_heap_mark → s.list.head ≡ s.list.tail → length s.sessions ≤ lowest_unmarked s.sessions
      → (n k : ℕ) → Clean s.memory s.current (reg s.sessions n k)
  scanned-all e d l n k = bool_or (get_or s.sessions n absent).attached
      (λ a. covered_clean (omega arith) (h.cleaned.scanned e n k a (all_marked s.sessions l n a)))
      (λ a o. absurd (o (h.roots.idle n k a)))

  pub heap_mark_moves : stage s.phase ≡ st_heap_mark → s.list.head ≡ s.list.tail → length s.sessions ≤ lowest_unmarked s.sessions → Sim K m (move_on s) f
  unfolding level_of level_before
  heap_mark_moves e d l = moves h
      (record {
        level = steady at_heap_mark (omega arith) e refl;
        emptied = λ o. absurd (omega arith);
        globals = λ o. absurd (omega arith);
        none_grey = λ o v t g. let x = h.grey-list.found (omega arith) (omega arith) v t g in omega (arith, x.1, x.2);
        registers = λ o. scanned-all e d l;
        shelled = λ o. absurd (omega arith);
        copied = λ o. absurd (omega arith);
        flipped = λ o. absurd (omega arith);
      })
      (omega arith)

  -- ---- 5 Allocate: every marked record has its replica
  pub allocate_moves : stage s.phase ≡ st_allocate → frontier s.memory s.current ≤ s.walk.place → have_level s ≡ true → Sim K m (move_on s) f
  allocate_moves e d l = moves h
      (record {
        level = have_level_lem l;
        emptied = λ o. absurd (omega arith);
        globals = λ o. absurd (omega arith);
        none_grey = λ o. absurd (omega arith);
        registers = λ o. absurd (omega arith);
        shelled = λ o v t. h.colours.shelled_below e v t (passed-all d v t);
        copied = λ o. absurd (omega arith);
        flipped = λ o. absurd (omega arith);
      })
      (omega arith)

  -- ---- 7 Copy: every field has been copied
  pub copy_moves : stage s.phase ≡ st_copy → frontier s.memory s.current ≤ s.walk.place → Sim K m (move_on s) f
  unfolding level_of level_before
  copy_moves e d = moves h
      (record {
        level = steady at_copy (omega arith) e refl;
        emptied = λ o. absurd (omega arith);
        globals = λ o. absurd (omega arith);
        none_grey = λ o. absurd (omega arith);
        registers = λ o. absurd (omega arith);
        shelled = λ o. absurd (omega arith);
        copied = λ o. passed-all d;
        flipped = λ o. absurd (omega arith);
      })
      (omega arith)

  -- ---- 10 RootFlip: every global has been forwarded
  pub root_flip_moves : stage s.phase ≡ st_root_flip → global_count ≤ s.walk.place → Sim K m (move_on s) f
  unfolding level_of level_before
  root_flip_moves e l = moves h
      (record {
        level = steady at_root_flip (omega arith) e refl;
        emptied = λ o. absurd (omega arith);
        globals = λ o. absurd (omega arith);
        none_grey = λ o. absurd (omega arith);
        registers = λ o. absurd (omega arith);
        shelled = λ o. absurd (omega arith);
        copied = λ o. absurd (omega arith);
        flipped = λ o g. lt_or g global_count (λ b. h.root_halves.flipping e g (omega arith)) (λ b n. absurd (n (past_globals g b)));
      })
      (omega arith)
