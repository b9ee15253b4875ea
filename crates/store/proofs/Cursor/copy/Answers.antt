-- Below the frontier the record is passed over, or its next field copied.
use mathlib.Core.Path.{sym}
use native.Mathlib.Omega.{arith}
use Rattle.rules.specs.Memory.{replica, replica_at}
use Rattle.rules.specs.Collector.{past_record, copy}
use Rattle.store.proofs.collector.Walk.{size-found, past-found, walk-found, lent_header}
use Rattle.store.proofs.collector.Copy.{none_left}
use Rattle.store.proofs.Cursor.copy.Goals as goal

pub word-t-requires : goal.word-t-requires
word-t-requires c = lent_header c.halves-halves.result c.halves-halves.ensures.memory c.in-Sound.ensures replica_at (omega arith)

pub past_record-requires : goal.past_record-requires
past_record-requires c = (c.requires.places, past-found (walk-found c.halves-halves.result c.halves-halves.ensures.memory c.in-Sound.ensures))

pub returns-then-t-n : goal.returns-then-t-n
unfolding copy past_record replica
returns-then-t-n c =
    let a = c.args in
    let k = walk-found c.halves-halves.result c.halves-halves.ensures.memory c.in-Sound.ensures in
    let t = rw c.halves-halves.ensures.memory at c.word-t.ensures in
    λ s l. rw (
      c.past_record.ensures,
      sym (c.if-not-below.ensures s a.h0.now a.h1.now l),
      ← c.walked-v.ensures s a.h0.now a.h1.now l,
      k.follows,
      size-found k,
      ← t,
      ← k.refs,
      ← k.plains,
      none_left _ _ _ c.if-t-n.true,
    )
