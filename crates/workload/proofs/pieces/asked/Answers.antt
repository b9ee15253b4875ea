-- Eight bytes hold a seed and a count.
use Rattle.std.proofs.Common.{◌≡◌, arith}
use Rattle.rules.specs.Script.{big_endian, number_at}
use Rattle.workload.specs.Load.{seed_in, count_in}
use Rattle.workload.specs.Pieces.{started}
use Rattle.workload.proofs.Asking.{refused, given}
use Rattle.workload.proofs.pieces.asked.Goals as goal

pub returns-then-seed-eq0 : goal.returns-then-seed-eq0
unfolding number_at big_endian
returns-then-seed-eq0 c =
    let seed : c.from_be_bytes-seed.result ≡ seed_in c.args.input.now = omega arith in
    let count : c.from_be_bytes-count.result ≡ count_in c.args.input.now = omega arith in
    rw (refused c.args.input.now (omega arith) (rw (seed, count) at c.then-seed-eq0.either))

pub returns : goal.returns
unfolding number_at big_endian started
returns c =
    let seed : c.from_be_bytes-seed.result ≡ seed_in c.args.input.now = omega arith in
    let count : c.from_be_bytes-count.result ≡ count_in c.args.input.now = omega arith in
    rw (given c.args.input.now (omega arith) (rw seed at c.if-seed-eq0.false) (rw count at c.if-count-gt-MOST_ENTRIES.false), c.xorshift32.ensures, seed, count)
