-- Whether a line fits, as a Bool; and that nothing was written, or all of what there was.
use Rattle.std.proofs.Common.{ℕ, ◌+◌, ◌≤◌, ◌<◌, Bool, true, false, Some, length, refl, arith, le-leb}
use Rattle.std.specs.Bool.{then_some}
use borrow.Author.Tests.{lt-leb}
use Rattle.script.specs.Lines.{next_line, Flushed}
use Rattle.script.proofs.Growing.{grows_nothing, grows_where}
use Rattle.script.proofs.buffers.flush_by.Goals as goal

-- a line of at most so many bytes fits, or the output was written out
has_room : (longest end size : ℕ) → end + longest ≤ size → Flushed longest end size (Some end)
unfolding next_line
has_room longest end size over =
    record { place = rw (le-leb (end + longest) size over); room = λ fits. over; still = λ fits. refl }

written_out : (longest end size : ℕ) → size < end + longest → (b : Bool) → Flushed longest end size (then_some b 0)
unfolding next_line
written_out longest end size over true =
    record { place = rw (lt-leb (end + longest) size over); room = λ fits. omega arith; still = λ fits. absurd (omega arith) }
written_out longest end size over false = record { place = tt; room = λ fits. tt; still = λ fits. absurd (omega arith) }

pub returns-then-longest-out : goal.returns-then-longest-out
returns-then-longest-out g c =
    record {
      place = has_room c.args.longest c.args.end (length c.args.out.now) (omega arith);
      grown = grows_nothing _;
    }

pub returns-else-longest-out : goal.returns-else-longest-out
returns-else-longest-out g c =
    record {
      place =
          rw c.then_some.ensures (written_out c.args.longest c.args.end (length c.args.out.now) (omega arith) c.write_all.result);
      grown = rw c.then_some.ensures (grows_where _ _ _ _ c.write_all.result c.write_all.ensures);
    }
