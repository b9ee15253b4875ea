-- The word that the replica gets, or damage; then it is written.
use mathlib.Core.Path.{◌∙◌, sym}
use Rattle.store.specs.Cursors.{having}
use Rattle.store.proofs.collector.Numbers.{damaged}
use Rattle.store.proofs.collector.Walk.{has-same}
use Rattle.store.proofs.collector.Copy.{copy_follows, field-here, field_there, field_lost, field_copied}
use Rattle.store.proofs.Cursor.copy_field.Goals as goal

pub word-x-requires : goal.word-x-requires
word-x-requires c = has-same (sym c.halves.ensures.memory) (field-here c.requires)

pub returns-in_err-w : goal.returns-in_err-w
returns-in_err-w c =
    let k = c.requires in
    λ s l.
    let t = having s c.args.self c.args.h0.now c.args.h1.now l in
    let x = rw c.halves.ensures.memory at c.word-x.ensures in
    damaged t c.from_residual.result c.from_residual.ensures.0
    ∙ rw (field_lost t (copy_follows k) k.replica k.paired k.count k.left x (c.in_err-w.ensures s l))

pub put_word-requires : goal.put_word-requires
put_word-requires c = field_there c.requires

pub returns : goal.returns
returns c =
    let k = c.requires in
    λ s l.
    let t = having s c.args.self c.args.h0.now c.args.h1.now l in
    let x = rw c.halves.ensures.memory at c.word-x.ensures in
    rw (c.past_field.ensures, field_copied t (copy_follows k) k.replica k.paired k.count k.left x (c.in_ok-w.ensures s l) (c.put_word.ensures _ _))
