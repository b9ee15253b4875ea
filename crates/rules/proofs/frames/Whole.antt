-- Over a frame, all groups of the invariant at once that need only some kinds of words kept: a store with another memory.
use Prim.Native.Nat.{ℕ, ◌≤◌}
use mathlib.Core.Path.{◌≡◌, ◌∙◌}
use native.Mathlib.Omega.{arith}
use Rattle.rules.specs.Memory.{Memory, header, colour_at, replica_at, birth_at}
use Rattle.rules.specs.Control.{Store, with_memory}
use Rattle.rules.specs.Cycle.{stage}
use Rattle.rules.specs.Phases.{other_half}
use Rattle.rules.specs.Free.{Free}
use Rattle.rules.proofs.Ranges.{InRange}
use Rattle.rules.proofs.memory.Records.{Filled}
use Rattle.rules.proofs.invariant.Groups.{Identity, Values, Roots, FieldHalves, Pairs, Agreement}
use Rattle.rules.proofs.invariant.Marking.{Colours, GreyList, Walking, Kept}
use Rattle.rules.proofs.invariant.Sim.{Sim}
use Rattle.rules.proofs.invariant.Laws.{cur_two}
use Rattle.rules.proofs.invariant.Pairs.{replica-shape}
use Rattle.rules.proofs.invariant.Range.{range_memory}
use Rattle.rules.proofs.frames.Frame.{Frame}
use Rattle.rules.proofs.frames.Kept.{ColoursSame, ReplicasSame, RefsSame, PlainsSame, colours_kept, replicas_kept, births-kept, fields-kept, plain_fields-kept}
use Rattle.rules.proofs.frames.Transfer.{identity_kept, values-kept, roots_kept, field_halves_kept, pairs-kept, agreement_kept}
use Rattle.rules.proofs.frames.Marks.{colours_group-kept, grey-list-kept, walking-kept, kept-kept}

-- ---- where nothing but colours changes
pub record ColourChanged (m : ℕ → ℕ) (s : Store) (M' : Memory) (f : Free) : Type 0 where
  pub range : InRange (with_memory s M')
  pub filled : Filled M'
  pub identity : Identity M' m f.records
  pub values : Values M' m s.current f.records
  pub roots : Roots M' m s.sessions f.sessions s.globals f.globals
  pub field_halves : FieldHalves M' s.current (stage s.phase)
  pub pairs : Pairs M' m s.current (stage s.phase)
  pub agreement : Agreement M' s.current (stage s.phase) s.walk.place s.walk.field
  pub walking : Walking M' s.current (stage s.phase) s.walk.place s.walk.field s.list.head s.list.tail

pub colour_changed : {K : ℕ → Type 0} {m : ℕ → ℕ} {s : Store} {f : Free} {M' : Memory} {Q : ℕ → ℕ → Type 0} → Sim K m s f → Frame s.memory M' Q
    → ((v j : ℕ) → Q v j → j ≡ colour_at) → ColourChanged m s M' f
colour_changed {m = m} {s = s} {f = f} {M' = M'} {Q = Q} h F only =
    let r : ReplicasSame s.memory M' = replicas_kept F (λ v q. let e = only v replica_at q in absurd (omega arith)) in
    let n : (v j : ℕ) → header ≤ j → ¬ Q v j = λ v j l q. let e = only v j q in absurd (omega arith) in
    let cur = s.current in
    record {
      range = range_memory h.range F.filled F.lengths;
      filled = F.filled;
      identity = identity_kept F (births-kept F (λ v q. let e = only v birth_at q in absurd (omega arith))) h.identity;
      values = values-kept F (fields-kept F cur n) (plain_fields-kept F cur n) h.values;
      roots = roots_kept F h.roots;
      field_halves = field_halves_kept F (fields-kept F cur n) (λ l. fields-kept F (other_half cur) n) h.field_halves;
      pairs = pairs-kept F (cur_two h) r h.pairs;
      agreement = agreement_kept F (cur_two h) h.values h.pairs r (fields-kept F cur n) (fields-kept F (other_half cur) n)
          (plain_fields-kept F cur n) (plain_fields-kept F (other_half cur) n) (replica-shape h) h.agreement;
      walking = walking-kept F (cur_two h) (λ e v t l z. r v t.start ∙ z) h.walking;
    }

-- ---- where nothing but replica words changes
pub record ReplicaChanged (K : ℕ → Type 0) (m : ℕ → ℕ) (s : Store) (M' : Memory) (f : Free) : Type 0 where
  pub range : InRange (with_memory s M')
  pub filled : Filled M'
  pub identity : Identity M' m f.records
  pub values : Values M' m s.current f.records
  pub roots : Roots M' m s.sessions f.sessions s.globals f.globals
  pub field_halves : FieldHalves M' s.current (stage s.phase)
  pub grey-list : GreyList M' s.current (stage s.phase) s.list.words s.list.head s.list.tail
  pub kept : Kept K M' m s.current (stage s.phase) f.records f.sessions f.globals
  pub colours_same : ColoursSame s.memory M'
  pub refs-same : (h : ℕ) → RefsSame s.memory M' h
  pub plains-same : (h : ℕ) → PlainsSame s.memory M' h

pub replica_changed : {K : ℕ → Type 0} {m : ℕ → ℕ} {s : Store} {f : Free} {M' : Memory} {Q : ℕ → ℕ → Type 0} → Sim K m s f → Frame s.memory M' Q
    → ((v j : ℕ) → Q v j → j ≡ replica_at) → ReplicaChanged K m s M' f
replica_changed {m = m} {s = s} {f = f} {M' = M'} {Q = Q} h F only =
    let c : ColoursSame s.memory M' = colours_kept F (λ v q. let e = only v colour_at q in absurd (omega arith)) in
    let n : (v j : ℕ) → header ≤ j → ¬ Q v j = λ v j l q. let e = only v j q in absurd (omega arith) in
    let cur = s.current in
    record {
      range = range_memory h.range F.filled F.lengths;
      filled = F.filled;
      identity = identity_kept F (births-kept F (λ v q. let e = only v birth_at q in absurd (omega arith))) h.identity;
      values = values-kept F (fields-kept F cur n) (plain_fields-kept F cur n) h.values;
      roots = roots_kept F h.roots;
      field_halves = field_halves_kept F (fields-kept F cur n) (λ l. fields-kept F (other_half cur) n) h.field_halves;
      grey-list = grey-list-kept F (cur_two h) h.range.begins c h.grey-list;
      kept = kept-kept F c h.kept;
      colours_same = c;
      refs-same = λ g. fields-kept F g n;
      plains-same = λ g. plain_fields-kept F g n;
    }

-- ---- where nothing but fields changes
pub record FieldChanged (m : ℕ → ℕ) (s : Store) (M' : Memory) (f : Free) : Type 0 where
  pub range : InRange (with_memory s M')
  pub filled : Filled M'
  pub identity : Identity M' m f.records
  pub roots : Roots M' m s.sessions f.sessions s.globals f.globals
  pub pairs : Pairs M' m s.current (stage s.phase)
  pub colours : Colours M' s.current (stage s.phase) s.walk.place
  pub grey-list : GreyList M' s.current (stage s.phase) s.list.words s.list.head s.list.tail
  pub walking : Walking M' s.current (stage s.phase) s.walk.place s.walk.field s.list.head s.list.tail
  pub colours_same : ColoursSame s.memory M'
  pub replicas_same : ReplicasSame s.memory M'

pub field_changed : {K : ℕ → Type 0} {m : ℕ → ℕ} {s : Store} {f : Free} {M' : Memory} {Q : ℕ → ℕ → Type 0} → Sim K m s f → Frame s.memory M' Q
    → ((v j : ℕ) → Q v j → header ≤ j) → FieldChanged m s M' f
field_changed {m = m} {s = s} {f = f} {M' = M'} {Q = Q} h F only =
    let c : ColoursSame s.memory M' = colours_kept F (λ v q. let e = only v colour_at q in absurd (omega arith)) in
    let r : ReplicasSame s.memory M' = replicas_kept F (λ v q. let e = only v replica_at q in absurd (omega arith)) in
    record {
      range = range_memory h.range F.filled F.lengths;
      filled = F.filled;
      identity = identity_kept F (births-kept F (λ v q. let e = only v birth_at q in absurd (omega arith))) h.identity;
      roots = roots_kept F h.roots;
      pairs = pairs-kept F (cur_two h) r h.pairs;
      colours = colours_group-kept F c r h.colours;
      grey-list = grey-list-kept F (cur_two h) h.range.begins c h.grey-list;
      walking = walking-kept F (cur_two h) (λ e v t l z. r v t.start ∙ z) h.walking;
      colours_same = c;
      replicas_same = r;
    }
