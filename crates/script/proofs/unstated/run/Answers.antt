-- All that was written out before stands, whichever way the loop ends, and what is left is written behind it.
use borrow.Author.Rules.{rules}
use Rattle.script.specs.Lines.{Grows}
use Rattle.script.proofs.Growing.{grows_on, grows_last}
use Rattle.script.proofs.unstated.run.Goals as goal
use Rattle.script.proofs.unstated.run.Goals.{else-loop-test, then-loop-test+in-Some+then-not-turn}

pub loop-preserved : goal.loop-preserved
loop-preserved g c =
    record {
      filled = search rules;
      begins = search rules;
      within = search rules;
      grown = grows_on _ _ _ c.loop.invariant.grown c.in-Some.ensures.grown;
    }

pub returns : goal.returns
returns g c =
    let out = g.W.Write.contents in
    let before : Grows (out c.args.stdout.now) (out c.loop-test.stdout) =
    elim c.loop-test.branch [
      | else-loop-test w ↦ rw w.stdout-is c.loop.invariant.grown
      | then-loop-test+in-Some+then-not-turn w ↦ rw w.stdout-is (grows_on _ _ _ c.loop.invariant.grown w.in-Some.ensures.grown)
    ] in
    grows_last _ _ _ _ c.write_all-2.result before c.write_all-2.ensures
