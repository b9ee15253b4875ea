-- The safe point, the act, its end.
use mathlib.Core.Path.{◌∙◌}
use mathlib.Core.List.{[]}
use Rattle.std.proofs.Common.{arith}
use Rattle.directory_rules.specs.Directory.{plainly}
use Rattle.directory.proofs.acts.Sequence.{after}
use Rattle.directory.proofs.acts.Ending.{plain_left, ended}
use Rattle.directory.proofs.calls.change.Goals as goal

pub returns-in_err-safe_point-clause-did : goal.returns-in_err-safe_point-clause-did
returns-in_err-safe_point-clause-did g c = grind (arith, after)

pub returns-clause-did : goal.returns-clause-did
returns-clause-did g c = let d = c.requires.1.1 _ _ _ _ _ c.act-done.ensures in ended [] c.args.registers _ _ _ (plainly g.does) _ (plain_left _ _ g.does _ _ d.0 c.and.ensures) (grind arith) ∙ grind (arith, after)
