-- A record that was followed has its reference fields and its colour word.
use native.Mathlib.Omega.{arith}
use Rattle.rules.specs.Memory.{colour_at}
use Rattle.heap.proofs.Soundness.{found}
use Rattle.heap.proofs.Lent.{has_ref}
use Rattle.store.proofs.collector.Walk.{walk-header}
use Rattle.store.proofs.Cursor.scan_record.Goals as goal

pub word-q-requires : goal.word-q-requires
word-q-requires c =
    let k = found _ _ c.follow.ensures c.in-Sound.is in
    has_ref c.halves-halves.result c.args.v k.sound _ (rw (← k.refs) c.if-field-r.true)

pub put_word-requires : goal.put_word-requires
put_word-requires c =
    walk-header c.halves-halves.result c.halves-halves.ensures.memory c.in-Sound.ensures colour_at (omega arith)
