-- What was unreachable when a collection began takes up no word when it has ended: the invariant with the places that were
-- reached then, or have been allocated since, as those to be kept.
use Prim.Native.Nat.{ℕ, ◌-◌, ◌<◌}
use mathlib.Core.Path.{◌≡◌, sym, ap, ◌∙◌, fun_ext, subst}
use mathlib.Core.Logic.{◌≢◌, inl, inr}
use mathlib.Core.List.{List, ◌∷◌, Memᴰ}
use native.Mathlib.Omega.{arith}
use lib.ListN.{get_or, length, get_or-eq_default}
use Rattle.rules.specs.Memory.{null}
use Rattle.rules.specs.Control.{with_list}
use Rattle.rules.specs.Cycle.{stage, at_rest}
use Rattle.rules.specs.Phases.{move_on, next_phase}
use Rattle.rules.specs.Collector.{rest, step, walked, units, handshake}
use Rattle.rules.specs.Runs.{Call, Step, apply, after}
use Rattle.rules.specs.Free.{Record, no_record, record_at, free_session, free_register}
use Rattle.rules.specs.Tracking.{Beside, track, beside_call, beside, by_register, by_global, by_field}
use Rattle.rules.specs.Claims.{Living, FreedBetween, left_in, places_in}
use Rattle.rules.proofs.Ranges.{in_range-tested}
use Rattle.rules.proofs.memory.Records.{Start}
use Rattle.rules.proofs.memory.Empty.{empty_none}
use Rattle.rules.proofs.memory.Listing.{mapped_start, mapped_once, mapped_words}
use Rattle.rules.proofs.invariant.Stages.{st_pre_mark1, stage_is}
use Rattle.rules.proofs.invariant.Words.{rec_of}
use Rattle.rules.proofs.invariant.Marking.{Kept}
use Rattle.rules.proofs.invariant.Laws.{cur_two, in_or, place-size}
use Rattle.rules.proofs.relation.Tracks.{tracked, tracks_none}
use Rattle.rules.proofs.runs.Call.{one_call}
use Rattle.rules.proofs.runs.Runs.{Holds, run_holds, beside-store}

-- ---- the step that leaves Rest

-- as the step leaves it
abbrev begun : Beside → Beside
begun b = record { store = move_on (with_list b.store b.store.list.words 0 0); free = b.free; place = b.place }

module _ {K : ℕ → Type 0} (b : Beside) (h : Holds K b) (z : b.store.phase ≡ at_rest) where
  first_unit : get_or units b.store.phase handshake b.store ≡ rest b.store
  first_unit = ap (λ st. get_or units st handshake b.store) z

  begins : (apply b.store Step).store ≡ (begun b).store
  unfolding step rest
  begins = rw (in_range-tested h.range, first_unit)

  no_place : track b Step ≡ b.place
  unfolding track tracked move_on
  no_place = rw begins (fun_ext (λ u. sym (tracks_none (b.place (walked b.store)) b.place b.store.memory u)))

  first_step : beside_call b Step ≡ begun b
  first_step = rw (begins, no_place)

  begun_holds : Holds K (begun b)
  begun_holds = subst (Holds K) first_step (one_call b h Step).sim

  -- ---- nothing is marked yet, so any closed set of places may be kept

  no_fields : (rs : List Record) (q i : ℕ) → length rs < q → get_or (rec_of rs q).refs i null ≡ null
  no_fields rs q i l = rw (get_or-eq_default rs no_record {n = q - 1} (omega arith))

  living : Kept (Living b.free) b.store.memory b.place b.store.current st_pre_mark1 b.free.records b.free.sessions b.free.globals
  unfolding free_session free_register record_at
  living = record {
    to_come = λ q l. inr l;
    registers = λ n k e. inl (by_register n k e);
    globals = λ g e. inl (by_global g e);
    fields = field;
    marked = λ lo hi v t e. absurd (e (h.colours.at_rest (stage_is z) v t));
    left-at_reclaim = λ e. absurd (omega arith);
    left-at_rest = λ e. absurd (omega arith);
  }
    where
      field : (q i : ℕ) → Living b.free q → get_or (rec_of b.free.records q).refs i null ≢ null → Living b.free (get_or (rec_of b.free.records q).refs i null)
      field q i (inl r) e = inl (by_field q i r e)
      field q i (inr l) e = absurd (e (no_fields b.free.records q i l))

  begun-stage : stage (begun b).store.phase ≡ st_pre_mark1
  unfolding move_on next_phase stage
  begun-stage = rw z

  begun_kept : Kept (Living b.free) (begun b).store.memory b.place (begun b).store.current (stage (begun b).store.phase) b.free.records b.free.sessions b.free.globals
  unfolding move_on
  begun_kept = rw begun-stage living

  living_holds : Holds (Living b.free) (begun b)
  living_holds = let k = begun_holds in record {
    range = k.range;
    filled = k.filled;
    births = k.births;
    identity = k.identity;
    values = k.values;
    roots = k.roots;
    levels = k.levels;
    root_halves = k.root_halves;
    field_halves = k.field_halves;
    pairs = k.pairs;
    agreement = k.agreement;
    colours = k.colours;
    grey-list = k.grey-list;
    cleaned = k.cleaned;
    walking = k.walking;
    kept = begun_kept;
  }

-- ---- every record of either half has a place in K

abbrev pub AllKept : (ℕ → Type 0) → Beside → Type 0
AllKept K e = (v : ℕ) → Start e.store.memory v → K (e.place v)

pub all_listed : {K : ℕ → Type 0} {e : Beside} → Holds K e → AllKept K e → {g : ℕ} → g < 2 → (q : ℕ) → Memᴰ q (places_in e g) → K q
all_listed {e = e} h all two q i = let l = mapped_start h.filled two e.place i in rw l.value at (all l.named l.start)

-- ---- back in Rest

module _ {K : ℕ → Type 0} {e : Beside} (h : Holds K e) (z : e.store.phase ≡ at_rest) where
  -- the current half has only such records, the other none
  pub ended-kept : AllKept K e
  ended-kept v t = in_or e.store.current (cur_two h) t
      (h.kept.left-at_rest (stage_is z) v)
      (λ o. absurd (empty_none (rw o.side (h.pairs.empty (omega (arith, stage_is z)))) t))

  ended : (b : Beside) → ((q : ℕ) → K q → Living b.free q) → FreedBetween b e (left_in e)
  ended b k = record {
    kept = λ q i. k q (all_listed h ended-kept (cur_two h) q i);
    once = mapped_once h.filled (cur_two h) e.place (λ u v t a w c. h.identity.apart u v t w (a ∙ sym c));
    used = sym (mapped_words h.filled (cur_two h) e.place e.free (λ v t side. place-size h t));
    emptied = h.pairs.empty (omega (arith, stage_is z));
  }

-- the invariant from the step that leaves phase 0 on
pub living_run : {K : ℕ → Type 0} (b : Beside) → Holds K b → b.store.phase ≡ at_rest → (ds : List Call) → Holds (Living b.free) (beside (beside_call b Step) ds)
living_run b h z ds = rw (first_step b h z) (run_holds (begun b) (living_holds b h z) ds)

pub freed_between : {K : ℕ → Type 0} (b : Beside) → Holds K b → b.store.phase ≡ at_rest → (ds : List Call) → (after b.store (Step ∷ ds)).phase ≡ at_rest
    → FreedBetween b (beside b (Step ∷ ds)) (left_in (beside b (Step ∷ ds)))
freed_between b h z ds back = ended (living_run b h z ds) (rw (beside-store b (Step ∷ ds)) back) b (λ q l. l)
