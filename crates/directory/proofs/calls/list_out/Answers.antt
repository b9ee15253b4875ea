-- The safe point, the list, its end.
use mathlib.Core.Path.{sym, ◌∙◌}
use Rattle.directory_rules.specs.Table.{Members}
use Rattle.directory_rules.specs.Directory.{group_registers, program, listing}
use Rattle.directory.proofs.acts.Ending.{directory_call_lem, call_done, ended}
use Rattle.directory.proofs.calls.list_out.Goals as goal

pub returns : goal.returns
unfolding program
returns c =
    ended _ group_registers _ _ _ (listing _ _ _) _ c.listing-listed.ensures c.clear_registers.ensures
    ∙ sym (call_done _ _ _ c.safe_point.ensures _ c.in_ok-safe_point.was _ _) ∙ sym (directory_call_lem _ (Members _ _))
