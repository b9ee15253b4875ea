-- The invariant looks at the places of null and of records alone: it holds for any tracked places n that give them what m gives.
use Prim.Native.Nat.{ℕ}
use mathlib.Core.Path.{◌≡◌, refl, sym, ◌∙◌}
use Rattle.rules.specs.Memory.{Memory, null}
use Rattle.rules.specs.Cycle.{stage}
use Rattle.rules.specs.Control.{Store}
use Rattle.rules.specs.Free.{Free}
use Rattle.rules.proofs.memory.Records.{Start}
use Rattle.rules.proofs.invariant.Words.{Ok, ok_null, ok_start}
use Rattle.rules.proofs.invariant.Groups.{Identity, Values, Pair, Pairs}
use Rattle.rules.proofs.invariant.Marking.{Kept}
use Rattle.rules.proofs.invariant.Sim.{Sim}
use Rattle.rules.proofs.invariant.Carried.{roots_carried, kept_carried}

module _ {K : ℕ → Type 0} {m n : ℕ → ℕ} {s : Store} {f : Free} (h : Sim K m s f) (same : (u : ℕ) → Ok s.memory u → n u ≡ m u) where
  abbrev M : Memory
  M = s.memory

  at_start : {u : ℕ} → Start M u → n u ≡ m u
  at_start {u} t = same u (ok_start t)

  placed_identity : Identity M n f.records
  placed_identity = record {
    null-place = same null (ok_null refl) ∙ h.identity.null-place;
    low = λ v t. rw (at_start t) (h.identity.low v t);
    high = λ v t. rw (at_start t) (h.identity.high v t);
    born = λ v t. rw (at_start t) (h.identity.born v t);
    nrefs = λ v t. rw (at_start t) (h.identity.nrefs v t);
    nplains = λ v t. rw (at_start t) (h.identity.nplains v t);
    apart = λ v w t t' side e. h.identity.apart v w t t' side (sym (at_start t) ∙ e ∙ at_start t');
  }

  placed-values : Values M n s.current f.records
  placed-values = record {
    ok = h.values.ok;
    ref = λ v i t l. rw (at_start t.start, same _ (h.values.ok v i t l)) (h.values.ref v i t l);
    plain = λ v i t l. rw (at_start t.start) (h.values.plain v i t l);
  }

  placed_pair : {v w : ℕ} → Start M v → Pair M m v w → Pair M n v w
  placed_pair t p = record {
    start = p.start;
    across = p.across;
    back = p.back;
    same = at_start p.start ∙ p.same ∙ sym (at_start t);
  }

  placed-pairs : Pairs M n s.current (stage s.phase)
  placed-pairs = record {
    pair = λ v t d. placed_pair t.start (h.pairs.pair v t d);
    home = λ a v t. let x = h.pairs.home a v t in (x.0, placed_pair t.start x.1);
    empty = h.pairs.empty;
    spent = h.pairs.spent;
  }

  placed-kept : Kept K M n s.current (stage s.phase) f.records f.sessions f.globals
  placed-kept = kept_carried
      (λ a b v t d. rw (at_start t.start) (h.kept.marked a b v t d))
      (λ a v t. rw (at_start t.start) (h.kept.left-at_reclaim a v t))
      (λ a v t. rw (at_start t.start) (h.kept.left-at_rest a v t)) h.kept

  pub placed_sim : Sim K n s f
  placed_sim = record {
    range = h.range;
    filled = h.filled;
    births = h.births;
    identity = placed_identity;
    values = placed-values;
    roots = roots_carried h.roots.reg_ok h.roots.global_ok same h.roots;
    levels = h.levels;
    root_halves = h.root_halves;
    field_halves = h.field_halves;
    pairs = placed-pairs;
    agreement = h.agreement;
    colours = h.colours;
    grey-list = h.grey-list;
    cleaned = h.cleaned;
    walking = h.walking;
    kept = placed-kept;
  }
