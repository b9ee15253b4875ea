-- The control record test: the code's groups of tests are the rules' row.
use mathlib.Core.Path.{◌∙◌}
use lib.Dec.{leb}
use borrow.Author.Rules.{rules}
use Rattle.std.proofs.Common.{tests}
use Rattle.std.proofs.lemmas.Iterator.{YieldsList-from_slice}
use Rattle.std.proofs.lemmas.Iterator.Search.{all_from_yields_List}
use Rattle.rules.specs.Control.{last_level}
use Rattle.rules.specs.declared.Session.{Session}
use Rattle.store.specs.View.{viewed}
use Rattle.store.proofs.session.Search.{levels_lem}
use Rattle.store.proofs.tests.Range.{in_groups}
use Rattle.store.proofs.Control.valid.Goals as goal

pub returns : goal.returns
returns c =
    let a = c.args in
    let levels = all_from_yields_List (λ (x : Session). leb x.level last_level) _ _ c.all-levels.result c.all-levels.ensures.ran (YieldsList-from_slice a.self.now.sessions cc) (λ x b q k. search (rules, tests)) in
    rw c.half_allowed.ensures (in_groups (viewed a.self.now a.lent) _ (levels ∙ levels_lem a.self.now.sessions))
