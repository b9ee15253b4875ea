-- The plan of the next link is that on the store with what the links before it write, since only the list's end has moved.
use Prim.Native.Nat.{◌+◌}
use mathlib.Core.Path.{◌≡◌, ◌∙◌, sym, ap}
use native.Mathlib.Omega.{arith}
use borrow.Author.Rules.{rules}
use lib.ListN.{length, length-append}
use Rattle.rules.specs.Refusals.{refused}
use Rattle.rules.specs.Answers.{number}
use Rattle.rules.specs.declared.Link.{Link}
use Rattle.store.specs.View.{viewed}
use Rattle.store.specs.Links.{with_pending, linked, tailed}
use Rattle.store.specs.declared.Control.{Control}
use Rattle.store.proofs.calls.Links.{plan_after, plan_moved, link_placeable, link_stored, link_listed, each_refused, each_on}
use Rattle.store.proofs.Control.plan_links.Goals as goal

abbrev none : Link
none = record { field = 0; from = 0 }

pub returns-in_err-plan-clause-plans : goal.returns-in_err-plan-clause-plans
returns-in_err-plan-clause-plans c =
    let a = c.args in
    let l = c.loop-link in
    let p = l.planned in
    let e = rw (c.words-words.ensures, c.entries.ensures) at c.in_err-plan.ensures in
    let q = e ∙ plan_moved a.self.now l.self p a.lent.half0.now a.lent.half1.now a.lent.list.now a.s a.register _ _ l.invariant.moved
    ∙ sym (plan_after a.self.now p a.lent.half0.now a.lent.half1.now a.lent.list.now a.s a.register _ _) in
    let r : linked (viewed a.self.now a.lent) c.from_residual.result p ≡ refused (number c.in_err-plan.field-0.0) = search rules in
    r ∙ each_refused (with_pending (viewed a.self.now a.lent) p) a.s a.register l.link-index a.links.now none (omega arith) q ∙ sym l.invariant.rest

pub add-requires : goal.add-requires
add-requires c =
    let a = c.args in
    let l = c.loop-link in
    let e = rw (c.words-words.ensures, c.entries.ensures) at c.in_ok-plan.ensures in
    let q = e ∙ plan_moved a.self.now l.self l.planned a.lent.half0.now a.lent.half1.now a.lent.list.now a.s a.register _ _ l.invariant.moved in
    (omega (arith, l.invariant.words, c.requires.0), link_placeable a.self.now l.planned a.lent.half0.now a.lent.half1.now a.lent.list.now a.s a.register _ _ q)

pub loop-link-preserved : goal.loop-link-preserved
loop-link-preserved c =
    let a = c.args in
    let l = c.loop-link in
    let p = l.planned in
    let e = rw (c.words-words.ensures, c.entries.ensures) at c.in_ok-plan.ensures in
    let q = e ∙ plan_moved a.self.now l.self p a.lent.half0.now a.lent.half1.now a.lent.list.now a.s a.register _ _ l.invariant.moved in
    let stored = link_stored a.self.now p a.lent.half0.now a.lent.half1.now a.lent.list.now a.s a.register _ _ q in
    record {
      words = rw (c.add.ensures, length-append) (omega (arith, l.invariant.words));
      room = rw c.add.ensures (link_listed a.self.now p a.lent.half0.now a.lent.half1.now a.lent.list.now a.s a.register _ _ q);
      moved = ap (λ (x : Control). tailed x (a.self.now.cursor.tail + length c.entries.result.now)) l.invariant.moved;
      rest =
          rw c.add.ensures
          (l.invariant.rest ∙ each_on (with_pending (viewed a.self.now a.lent) p) a.s a.register l.link-index a.links.now none (omega arith) stored);
    }
