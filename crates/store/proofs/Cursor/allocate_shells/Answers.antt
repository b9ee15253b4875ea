-- Below the frontier the record is passed over, the other half is full, or a shell is put at its frontier.
use mathlib.Core.Path.{sym}
use native.Mathlib.Omega.{arith}
use borrow.Author.Tests.{le-leb, lt-leb}
use Rattle.rules.specs.Memory.{colour_at, replica_at, with_frontier}
use Rattle.rules.specs.Collector.{past_record, allocate_shells}
use Rattle.store.proofs.collector.Walk.{size-found, past-found, walk-found, lent_header}
use Rattle.store.proofs.collector.Shells.{other_long, front-small, shell_ready}
use Rattle.store.proofs.Cursor.allocate_shells.Goals as goal

pub needs_shell-requires : goal.needs_shell-requires
needs_shell-requires c =
    let has = lent_header c.halves-halves.result c.halves-halves.ensures.memory c.in-Sound.ensures in
    (has colour_at (omega arith), has replica_at (omega arith))

pub past_record-requires : goal.past_record-requires
past_record-requires c = (c.requires.places, past-found (walk-found c.halves-halves.result c.halves-halves.ensures.memory c.in-Sound.ensures))

pub returns-then-not-needs_shell : goal.returns-then-not-needs_shell
unfolding allocate_shells past_record
returns-then-not-needs_shell c =
    let a = c.args in
    let k = walk-found c.halves-halves.result c.halves-halves.ensures.memory c.in-Sound.ensures in
    let n = rw c.halves-halves.ensures.memory at c.if-not-needs_shell.ensures in
    λ s l e. rw (
      c.past_record.ensures,
      sym (c.if-not-below.ensures s a.h0.now a.h1.now l),
      ← c.walked-v.ensures s a.h0.now a.h1.now l,
      k.follows,
      ← n,
      size-found k,
    )

pub overflow_add-at : goal.overflow_add-at
overflow_add-at c =
    let k = walk-found c.halves-halves.result c.halves-halves.ensures.memory c.in-Sound.ensures in
    let p = past-found k in
    let f = front-small _ c.requires (c.frontier-at.ensures c.args.h0.now c.args.h1.now) in
    omega arith

pub returns-then-h0-at : goal.returns-then-h0-at
unfolding allocate_shells past_record
returns-then-h0-at c =
    let a = c.args in
    let k = walk-found c.halves-halves.result c.halves-halves.ensures.memory c.in-Sound.ensures in
    let n = rw c.halves-halves.ensures.memory at c.if-not-needs_shell.ensures in
    λ s l e. rw (
      sym (c.if-not-below.ensures s a.h0.now a.h1.now l),
      ← c.walked-v.ensures s a.h0.now a.h1.now l,
      k.follows,
      ← n,
      size-found k,
      ← c.other_half-other.ensures,
      ← c.frontier-at.ensures a.h0.now a.h1.now,
      other_long _ _ _ _ c.other_half-other.result c.requires.equal,
      lt-leb _ _ c.if-h0-at.true,
    )

pub put_shell-requires : goal.put_shell-requires
put_shell-requires c =
    let k = walk-found c.halves-halves.result c.halves-halves.ensures.memory c.in-Sound.ensures in
    shell_ready _ c.requires (c.frontier-at.ensures c.args.h0.now c.args.h1.now) k c.other_half-other.ensures c.if-h0-at.false

pub past_record-requires-2 : goal.past_record-requires-2
past_record-requires-2 c =
    rw c.with_frontier-grown.ensures (c.requires.places, past-found (walk-found c.halves-halves.result c.halves-halves.ensures.memory c.in-Sound.ensures))

pub returns : goal.returns
unfolding allocate_shells past_record with_frontier
returns c =
    let a = c.args in
    let k = walk-found c.halves-halves.result c.halves-halves.ensures.memory c.in-Sound.ensures in
    let n = rw c.halves-halves.ensures.memory at c.if-not-needs_shell.ensures in
    let f = c.frontier-at.ensures a.h0.now a.h1.now in
    λ s l e. rw (
      c.past_record-2.ensures,
      c.with_frontier-grown.ensures,
      sym (c.if-not-below.ensures s a.h0.now a.h1.now l),
      ← c.walked-v.ensures s a.h0.now a.h1.now l,
      k.follows,
      ← n,
      size-found k,
      ← c.other_half-other.ensures,
      ← f,
      other_long _ _ _ _ c.other_half-other.result c.requires.equal,
      le-leb _ _ c.if-h0-at.false,
      ← c.put_shell.ensures a.self.frontier0 a.self.frontier1 (sym f),
    )
