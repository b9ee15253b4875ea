-- A word has 32 bits, so at most ten digits.
use Rattle.std.proofs.Common.{◌^◌, ◌<◌, ◌∷◌, arith}
use Rattle.rules.specs.Script.{decimal, space}
use Rattle.rules.proofs.memory.Sets.{and-more}
use Rattle.script.proofs.Digits.{long32}
use Rattle.directory_main.proofs.Text.{word-put}
use Rattle.directory_main.proofs.lines.put_words.Goals as goal

pub put_next-end-requires : goal.put_next-end-requires
put_next-end-requires c =
    let word : c.from.result < 2 ^ 32 = omega (arith, c.from.ensures, c.type_inv.words c.loop-word.word-index) in
    omega (arith, long32 _ word)

pub loop-word-preserved : goal.loop-word-preserved
loop-word-preserved c =
    let word : c.from.result < 2 ^ 32 = omega (arith, c.from.ensures, c.type_inv.words c.loop-word.word-index) in
    let p = c.put_next-end.ensures in
    record {
      put = rw (word-put c.args.words.now c.loop-word.word-index c.loop-word-test.true, ← c.from.ensures) (and-more c.loop-word.invariant.put (space ∷ decimal c.from.result) p.text p.end);
      short = omega (arith, long32 _ word);
    }
