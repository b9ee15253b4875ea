-- Invariant: what is left to clear from here gives what all gives.
use Rattle.directory.specs.View.{viewed}
use Rattle.directory.proofs.acts.Ending.{cleared-begun, cleared_more, cleared-all}
use Rattle.directory.proofs.calls.clear_registers.Goals as goal

pub loop-register-init : goal.loop-register-init
loop-register-init c = cleared-begun c.args.count (viewed c.args.control.now c.args.lent)

pub loop-register-preserved : goal.loop-register-preserved
loop-register-preserved c = cleared_more _ _ _ _ _ _ _ _ c.loop-register.invariant c.loop-register-test.true c.clear-reply.ensures

pub returns : goal.returns
returns c = cleared-all _ _ _ _ c.loop-register.invariant c.loop-register-test.false
