-- The kind byte, the arguments, and last the length byte.
use Rattle.std.proofs.Common.{arith, refl}
use Rattle.workload.proofs.Placing.{arguments-room, entry-end, entry-placed}
use Rattle.workload.proofs.entries.write_entry.Goals as goal

pub draw_kind-after-requires : goal.draw_kind-after-requires
draw_kind-after-requires c = (omega arith, arguments-room _ _ _ refl c.xorshift32.ensures c.requires)

pub overflow_sub-out : goal.overflow_sub-out
overflow_sub-out c = omega (arith, (entry-end _ _ _ refl c.xorshift32.ensures c.draw_kind-after.ensures).0)

pub overflow_cast-out-2 : goal.overflow_cast-out-2
overflow_cast-out-2 c =
    record { fits = omega (arith, (entry-end _ _ _ refl c.xorshift32.ensures c.draw_kind-after.ensures).1) }

pub returns : goal.returns
returns c = entry-placed _ _ _ refl c.xorshift32.ensures c.draw_kind-after.ensures
