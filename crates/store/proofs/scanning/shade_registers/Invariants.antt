use Rattle.store.proofs.shading.ShadeAll.{Turn}
use Rattle.store.proofs.scanning.shade_registers.Given as goal

abbrev pub invariant-loop-v : goal.invariant-loop-v
invariant-loop-v l = Turn l.initial.h0 l.initial.h1 l.initial.list l.h0 l.h1 l.list l.registers l.tail l.end l.v-index
