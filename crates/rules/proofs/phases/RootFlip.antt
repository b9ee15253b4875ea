-- 10 RootFlip: the next global forwarded.
use Prim.Native.Nat.{ℕ, ◌+◌, ◌≤◌, ◌<◌}
use mathlib.Core.Path.{◌≡◌, refl, sym, ◌∙◌}
use native.Mathlib.Omega.{arith}
use lib.ListN.{get_or}
use lib.Seq.{get_or-set_same}
use borrow.Author.Tests.{lt-ltb, le-ltb}
use Rattle.rules.specs.Memory.{null}
use Rattle.rules.specs.Control.{Store, with_walk, walk_limit, global_count}
use Rattle.rules.specs.Cycle.{stage, at_root_flip}
use Rattle.rules.specs.Phases.{other_half, move_on}
use Rattle.rules.specs.Collector.{root_flip}
use Rattle.rules.specs.Free.{Free}
use Rattle.rules.proofs.memory.Cases.{lt_or}
use Rattle.rules.proofs.invariant.Stages.{st_root_flip, phase-is}
use Rattle.rules.proofs.invariant.Words.{Names, fwd}
use Rattle.rules.proofs.invariant.Groups.{over}
use Rattle.rules.proofs.invariant.Sim.{Sim}
use Rattle.rules.proofs.invariant.Laws.{other, other_not, fwd_place, fwd_ok, fwd_names, to_other}
use Rattle.rules.proofs.invariant.Following.{forward-passed, follow-word}
use Rattle.rules.proofs.invariant.Idle.{walking_idle}
use Rattle.rules.proofs.invariant.Walked.{walk_sim}
use Rattle.rules.proofs.invariant.Spending.{spends_still, spends_moving}
use Rattle.rules.proofs.relation.Stepped.{Stepped, stepped_same}
use Rattle.rules.proofs.sessions.Session.{GlobalFits, global_sim_same}
use Rattle.rules.proofs.phases.Moves.{root_flip_moves}

-- ---- the walk over the globals goes on
module _ {K : ℕ → Type 0} {m : ℕ → ℕ} {s : Store} {f : Free} (h : Sim K m s f) (e : stage s.phase ≡ st_root_flip) (l : s.walk.place < global_count)
    (here : Names (other_half s.current) (get_or s.globals s.walk.place null)) where
  next_global : Sim K m (with_walk s (s.walk.place + 1) s.walk.field) f
  unfolding walk_limit
  next_global = walk_sim h (record {
    places = rw (phase-is at_root_flip h.range.phases (omega arith) e) (omega arith);
    fields = h.range.fields;
    globals-below = λ a. absurd (omega arith);
    scanning = λ a. absurd (omega arith);
    scanned-within = λ a. absurd (omega arith);
    covered = λ a. absurd (omega arith);
    shelled_below = λ a. absurd (omega arith);
    agreement = record {
      refs_agree = λ a b v i t n c d. h.agreement.refs_agree a b v i t n c (over (omega arith));
      plains_agree = λ a b v i t n c d. h.agreement.plains_agree a b v i t n c (over (omega arith));
    };
    flipping = λ a g b. lt_or g s.walk.place
        (λ c. h.root_halves.flipping e g c)
        (λ c. let q : g ≡ s.walk.place = omega arith in rw q here);
    walking = walking_idle (omega arith) (omega arith) (omega arith) (omega arith);
  })

-- ---- the unit
module _ {K : ℕ → Type 0} {m : ℕ → ℕ} {s : Store} {f : Free} (h : Sim K m s f) (e : stage s.phase ≡ st_root_flip) where
  -- what the global becomes
  abbrev new : ℕ
  new = fwd s.memory (other h) (get_or s.globals s.walk.place null)

  new_names : Names (other h) new
  new_names = fwd_names h (omega arith) (omega arith) (h.roots.global_ok s.walk.place)
      (h.cleaned.globals (omega arith) (omega arith) s.walk.place)

  new_fits : GlobalFits K m s s.walk.place new (get_or f.globals s.walk.place null)
  new_fits = record {
    ok = fwd_ok h (h.roots.global_ok s.walk.place);
    is = h.roots.global_is s.walk.place ∙ sym (fwd_place h (h.roots.global_ok s.walk.place));
    names = λ a. absurd (omega (arith, a (omega arith)));
    flipping = λ a b. new_names;
    flipped = λ a b. new_names;
    below = λ a. absurd (omega arith);
    clean = λ a b n side. absurd (other_not h (sym (new_names n) ∙ side));
    kept = h.kept.globals s.walk.place;
  }

  forwards : s.walk.place < global_count → Stepped K m s f (root_flip s)
  unfolding root_flip
  forwards l = stepped_same
      (rw (lt-ltb s.walk.place global_count l, to_other h (omega arith), forward-passed (other h) (h.roots.global_ok s.walk.place) (λ t d. follow-word h (λ y. h.root_halves.globals y s.walk.place) t)))
      (next_global (global_sim_same h s.walk.place (omega arith) new_fits) e l
      (rw (get_or-set_same s.globals s.walk.place new null (omega (arith, h.roots.globals))) new_names))
      refl (spends_still h.range (omega arith) refl refl refl)

  ends : global_count ≤ s.walk.place → Stepped K m s f (root_flip s)
  unfolding root_flip move_on
  ends l = stepped_same (rw (le-ltb s.walk.place global_count l)) (root_flip_moves h e l) refl
      (spends_moving h.range (omega arith) (omega arith))

  pub root_flip-stepped : Stepped K m s f (root_flip s)
  root_flip-stepped = lt_or s.walk.place global_count forwards ends
