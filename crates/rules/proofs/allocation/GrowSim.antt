-- New records keep the invariant, where they meet what it asks of them and the birth numbers used are counted.
use Prim.Native.Nat.{ℕ}
use mathlib.Core.Path.{◌≡◌}
use mathlib.Core.List.{List}
use lib.ListN.{length}
use Rattle.rules.specs.Memory.{Memory}
use Rattle.rules.specs.Control.{Store, with_memory, with_births}
use Rattle.rules.specs.Cycle.{stage}
use Rattle.rules.specs.Free.{Free, Record}
use Rattle.rules.proofs.invariant.Sim.{Sim}
use Rattle.rules.proofs.invariant.Laws.{cur_two}
use Rattle.rules.proofs.invariant.Range.{range_memory, range_births}
use Rattle.rules.proofs.allocation.Grown.{Grown}
use Rattle.rules.proofs.allocation.Growth.{Longer, Placed, Joined, Tinted}
use Rattle.rules.proofs.allocation.GrowValues.{grown_identity, grown-values, grown_roots, grown-field_halves}
use Rattle.rules.proofs.allocation.GrowPairs.{grown-pairs, grown_agreement}
use Rattle.rules.proofs.allocation.GrowMarking.{grown_colours, grown-grey-list, grown_cleaned, grown-walking, grown-kept}
use Rattle.rules.proofs.allocation.FreeRecords.{with_records}

module _ {K : ℕ → Type 0} {m m' : ℕ → ℕ} {s : Store} {f : Free} {M' : Memory} {New Re : ℕ → Type 0} {q : ℕ} {rs' : List Record} where
  pub grown_sim : Sim K m s f → Grown s.memory M' New Re → Longer f.records rs'
      → Placed s.memory M' New m m' s.current q f.records rs'
      → Joined s.memory M' New Re m' s.current (stage s.phase)
      → Tinted s.memory M' New s.current (stage s.phase)
      → (n : ℕ) → n ≡ length rs' → Sim K m' (with_births (with_memory s M') n) (with_records f rs')
  grown_sim h g l p j c n e = record {
    range = range_births (range_memory h.range g.filled g.lengths) n;
    filled = g.filled;
    births = e;
    identity = grown_identity g l p h.identity;
    values = grown-values g l p h.identity.null-place h.values;
    roots = grown_roots g l p h.roots;
    levels = h.levels;
    root_halves = h.root_halves;
    field_halves = grown-field_halves g h.field_halves;
    pairs = grown-pairs g p j h.pairs;
    agreement = grown_agreement g p j h.identity h.values h.pairs h.agreement;
    colours = grown_colours g j c (λ e. h.walking.at_allocate e) h.colours;
    grey-list = grown-grey-list g j c h.range.begins h.grey-list;
    cleaned = grown_cleaned g h.values h.roots h.grey-list h.cleaned;
    walking = grown-walking g (cur_two h) j h.walking;
    kept = grown-kept g l p h.kept;
  }
