-- A piece leaves fewer items to come, as there were some.
use Rattle.std.proofs.Common.{◌≤◌, length, arith, sym, ◌∙◌}
use Rattle.workload.specs.Pieces.{longest_entry}
use Rattle.workload.proofs.claims.Joining.{piece_fewer}
use Rattle.workload_main.proofs.write_load.Goals as goal

pub loop-rest-smaller : goal.loop-rest-smaller
loop-rest-smaller g c =
    let l = c.loop-rest in
    let room : longest_entry ≤ length l.out = omega arith in
    piece_fewer l.rest l.out c.fill-piece.ensures.filled room (sym c.any_left.ensures ∙ c.loop-rest-test.true)
