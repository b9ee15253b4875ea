-- At the frontier the other half is emptied; below it the record's replica word is cleared.
use mathlib.Core.Path.{◌∙◌, sym}
use native.Mathlib.Omega.{arith}
use Rattle.rules.specs.Memory.{with_frontier, replica_at}
use Rattle.rules.specs.Phases.{move_on, without_charges}
use Rattle.rules.specs.Collector.{past_record, reclaim}
use Rattle.store.proofs.collector.Walk.{size-found, past-found, walk-found, walk-header}
use Rattle.store.proofs.Cursor.reclaim.Goals as goal

pub returns-then-not-below : goal.returns-then-not-below
unfolding reclaim move_on without_charges with_frontier
returns-then-not-below c =
    λ s l e. rw (
      c.end.ensures,
      c.with_frontier-emptied.ensures,
      c.other_half.ensures,
      sym e ∙ c.if-not-ready.false,
      sym (c.if-not-below.ensures s c.args.h0.now c.args.h1.now l),
    )

pub put_word-requires : goal.put_word-requires
put_word-requires c = walk-header c.halves.result c.halves.ensures.memory c.in-Sound.ensures replica_at (omega arith)

pub past_record-requires : goal.past_record-requires
past_record-requires c = (c.requires.places, past-found (walk-found c.halves.result c.halves.ensures.memory c.in-Sound.ensures))

pub returns : goal.returns
unfolding reclaim past_record
returns c =
    let a = c.args in
    let k = walk-found c.halves.result c.halves.ensures.memory c.in-Sound.ensures in
    λ s l e. rw (
      c.past_record.ensures,
      sym e ∙ c.if-not-ready.false,
      sym (c.if-not-below.ensures s a.h0.now a.h1.now l),
      ← c.walked-v.ensures s a.h0.now a.h1.now l,
      k.follows,
      size-found k,
      ← c.put_word.ensures a.self.frontier0 a.self.frontier1,
    )
