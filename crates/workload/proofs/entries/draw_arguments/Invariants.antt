use Rattle.workload.proofs.Arguments.{Drawing}
use Rattle.workload.proofs.entries.draw_arguments.Given as goal

abbrev pub invariant-loop-class : goal.invariant-loop-class
invariant-loop-class l = Drawing l.classes l.value l.at l.initial.out l.class-index l.next l.end l.out
