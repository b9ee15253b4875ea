-- The shell appended, and the record's replica word set.
use Rattle.heap.proofs.Placing.{inside_kept}
use Rattle.store.proofs.collector.Shells.{shell_put}
use Rattle.store.proofs.shells.put_shell.Goals as goal

pub put_word-requires : goal.put_word-requires
put_word-requires c = inside_kept _ _ _ _ _ _ c.append_record.auto.h0 c.append_record.auto.h1 c.requires.replica

pub returns : goal.returns
returns c =
    let m = c.new-halves.ensures.memory in
    λ f0 f1 e. shell_put _ _ f0 f1 _ _ _ _ c.requires.fields (rw m at c.word.ensures) (rw m at c.word-2.ensures) c.reference.ensures
    (c.append_record.ensures f0 f1) (c.put_word.ensures f0 f1) e
