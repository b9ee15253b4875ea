use mathlib.Core.Path.{◌≡◌}
use Rattle.rules.specs.Barriers.{to}
use Rattle.rules.specs.Collector.{forward_all}
use Rattle.heap.specs.Halves.{as_heap}
use Rattle.store.proofs.collector.Forward.{rest_of}
use Rattle.store.proofs.flipping.forward_all.Given as goal

abbrev pub invariant-loop-register : goal.invariant-loop-register
invariant-loop-register l =
    forward_all (as_heap l.heap).memory (to (as_heap l.heap)) l.initial.register-items
    ≡ rest_of (as_heap l.heap).memory (to (as_heap l.heap)) l.register-items l.register-index
