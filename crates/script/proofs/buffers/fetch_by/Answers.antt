-- Where an entry is short, the bytes still to be done stand at the front, and those that were read behind them.
use Rattle.std.proofs.Common.{◌≡◌, ◌-◌, ◌≤◌, length, arith, sym, ◌∙◌}
use borrow.Rule.Slice.PartMut.{mid_of, mid_len, put_mid, same_len_mid, take_put}
use Rattle.script.proofs.Moving.{kept-within, read_on}
use Rattle.script.proofs.buffers.fetch_by.Goals as goal

pub returns : goal.returns
returns g c =
    let a = c.args in
    let k = c.keep-kept in
    let r = c.read_full-got in
    let short = sym c.is_short.ensures ∙ c.if-not-is_short.false in
    let size = length k.new.input in
    let start : k.result ≤ size = kept-within a.input.now a.at a.filled k.ensures.count k.ensures.bytes in
    let rest : length (mid_of k.result (size - k.result) k.new.input) ≡ size - k.result = mid_len k.result size k.new.input (omega arith) in
    let front = take_put k.result (size - k.result) k.new.input r.new.buf start in
    let back : length (put_mid k.result (size - k.result) k.new.input r.new.buf) ≡ size = same_len_mid k.result (size - k.result) k.new.input r.new.buf r.auto.buf in
    read_on a.longest a.input.now a.at a.filled k.result r.result k.new.input _ short k.ensures.count k.ensures.bytes front back (rw back (omega (arith, rest, r.auto.buf, r.ensures)))
