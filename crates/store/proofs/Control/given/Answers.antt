-- The session with its register set, and then charged, is one session set.
use mathlib.Core.Path.{◌≡◌}
use native.Mathlib.Omega.{arith}
use lib.ListN.{length}
use Rattle.store.specs.View.{view}
use Rattle.store.proofs.allocation.Record.{charged-once}
use borrow.Author.Rules.{rules}
use Rattle.store.proofs.Control.given.Goals as goal

pub returns : goal.returns
returns c =
    let a = c.args in
    let sessions : length a.self.sessions ≡ 16 = search rules in
    λ h0 h1 l. charged-once (view a.self h0 h1 l) a.s a.k a.v a.n (omega (arith, c.requires.0, sessions)) c.charged.ensures
