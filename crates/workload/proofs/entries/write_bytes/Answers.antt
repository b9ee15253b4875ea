-- What is put in the place of as many bytes sets each of them.
use Rattle.std.proofs.Common.{◌≡◌, ◌+◌, ◌-◌, length, arith, append_assoc}
use Rattle.std.proofs.Math.Seq.{drop-drop}
use Rattle.std.proofs.lemmas.List.Edits.{sets-eq}
use Rattle.workload.proofs.entries.write_bytes.Goals as goal

pub returns-clause-bytes : goal.returns-clause-bytes
returns-clause-bytes c =
    let a = c.args in
    let size : a.at + length a.bytes.now - a.at ≡ length a.bytes.now = omega arith in
    rw (size, c.copy_from_slice.ensures.after, sets-eq a.bytes.now a.out.now a.at c.requires, append_assoc, drop-drop)
