-- The half by the session's level.
use mathlib.Core.List.{[]}
use Rattle.store.proofs.allocation.Record.{below_at, other_small, fromspace-small, given-current, given-from, given_to}
use Rattle.store.proofs.Control.allocated_half.Goals as goal

pub returns-then-level-le2 : goal.returns-then-level-le2
returns-then-level-le2 c = (c.requires, λ h0 h1 l. given-current _ _ c.if-level-le2.true)

pub returns-then-level-le5 : goal.returns-then-level-le5
returns-then-level-le5 c = (
  fromspace-small _ (c.fromspace-from.ensures [] [] []) c.requires,
  λ h0 h1 l. given-from _ _ c.if-level-le2.false c.if-level-le5.true (c.fromspace-from.ensures h0 h1 l),
)

pub returns : goal.returns
returns c = (
  below_at c.other_half.ensures (other_small _),
  λ h0 h1 l. given_to _ _ c.if-level-le2.false c.if-level-le5.false (c.fromspace-from.ensures h0 h1 l) c.other_half.ensures,
)
