-- The call was the entry's, so its turn was taken.
use Rattle.std.proofs.Common.{[], ◌∙◌, arith}
use Rattle.script.proofs.Places.{ends_within}
use Rattle.script.proofs.Turning.{is_on, call_taken}
use Rattle.script.proofs.turns.take_turns.Goals as goal

pub write_line-requires : goal.write_line-requires
write_line-requires c =
    let i = c.in-Some.ensures.next in
    rw (i.same, i.out_same) (is_on _ _ (i.on [] [] [])).room

pub overflow_add-turn : goal.overflow_add-turn
overflow_add-turn c =
    let i = c.in-Some.ensures.next in
    rw i.same (omega (arith, (is_on _ _ (i.on [] [] [])).countable))

pub loop-command-smaller : goal.loop-command-smaller
loop-command-smaller c =
    let i = c.in-Some.ensures.next in
    rw i.same (omega (arith, (is_on _ _ (i.on [] [] [])).countable))

pub loop-command-preserved : goal.loop-command-preserved
loop-command-preserved c =
    let i = c.in-Some.ensures.next in
    let l = c.loop-command in
    let on = i.on l.h0 l.h1 l.list in
    let room = (is_on _ _ on).room in
    let made = rw i.same at c.call-answer.ensures in
    let end = rw i.same at c.write_line.ensures.end in
    let text = rw (i.same, i.out_same) at c.write_line.ensures.text in
    let short = rw i.same at c.write_line.ensures.short in
    record {
      same = rw i.same (call_taken c.args.stop c.args.input.now l.turn l.h0 l.h1 l.list l.out _ _ on i.here made end text ∙ l.invariant.same);
      counted = rw i.same (omega arith);
      reached = λ within. ends_within _ _ i.here;
      within = λ within. omega arith;
    }
