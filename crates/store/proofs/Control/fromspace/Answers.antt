-- By the contract of the cursor's fromspace, of the store that the control record is the view of.
use Rattle.store.specs.View.{view}
use Rattle.store.proofs.Control.fromspace.Goals as goal

pub returns : goal.returns
returns c = λ h0 h1 l. c.fromspace.ensures (view c.args.self.now h0 h1 l) h0 h1 l
