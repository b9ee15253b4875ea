-- The level of the phase, and whether every attached session is at it.
use mathlib.Core.Path.{◌∙◌}
use mathlib.Core.Bool.{not, ◌||◌}
use lib.Dec.{eqb}
use borrow.Author.Rules.{rules}
use Rattle.std.proofs.Common.{tests}
use Rattle.std.proofs.lemmas.Iterator.{YieldsList-from_slice}
use Rattle.std.proofs.lemmas.Iterator.Search.{all_from_yields_List}
use Rattle.rules.specs.Collector.{have_level}
use Rattle.rules.specs.declared.Session.{Session}
use Rattle.store.proofs.session.Search.{all_at_lem}
use Rattle.store.proofs.Control.have_level.Goals as goal

pub returns : goal.returns
unfolding have_level
returns c = λ h0 h1 l. rw (← c.level_of-level.ensures) (all_from_yields_List (λ (x : Session). not x.attached || eqb x.level c.level_of-level.result) _ _ _ c.all.ensures.ran (YieldsList-from_slice c.args.self.now.sessions cc) (λ x b q k. search (rules, tests)) ∙ all_at_lem c.level_of-level.result c.args.self.now.sessions)
