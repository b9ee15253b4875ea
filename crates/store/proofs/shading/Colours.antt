-- A record's colour word is no other record's colour word, however the records overlap: two different references name different words,
-- so the words right behind them differ too. A record coloured leaves every other colour as it was.
use Prim.Native.Nat.{ℕ, ◌+◌, ◌≤◌}
use mathlib.Core.Path.{◌≡◌, sym, refl}
use mathlib.Core.Logic.{◌≢◌}
use mathlib.Core.Bool.{cond}
use mathlib.Core.List.{List}
use native.Mathlib.Omega.{arith}
use lib.Dec.{eqb}
use lib.ListN.{set}
use lib.Seq.{get_or-set_same, get_or-set_other}
use borrow.Author.Tests.{eq-eqb, ne_eqb}
use Rattle.rules.specs.Memory.{Memory, half, half_of, word_of, colour_at, word, put, colour}
use Rattle.rules.proofs.memory.Cases.{eq_or}
use Rattle.rules.proofs.memory.Encoding.{half-below_2, reference-same}
use Rattle.rules.proofs.memory.Halves.{half-same, half_other}
use Rattle.heap.specs.View.{memory, Inside}

module _ (h0 h1 : List ℕ) (w c : ℕ) (k : Inside h0 h1 w colour_at) where
  abbrev M : Memory
  M = memory h0 h1 0 0

  colour_new : colour (put M w colour_at c) w ≡ c
  unfolding colour word put
  colour_new = rw half-same (get_or-set_same (half M (half_of w)) (word_of w + colour_at) c 0 k.below)

  colour-kept : (v : ℕ) → 2 ≤ v → v ≢ w → colour (put M w colour_at c) v ≡ colour M v
  unfolding colour word put
  colour-kept v n d = eq_or (half_of v) (half_of w)
      (λ e. let o : word_of v + colour_at ≢ word_of w + colour_at = λ q. d (reference-same v w n k.named e (omega arith)) in
      rw (e, half-same) (get_or-set_other (half M (half_of w)) (word_of w + colour_at) (word_of v + colour_at) c 0 o))
      (λ e. rw (half_other M (half_of w) (half_of v) (set (half M (half_of w)) (word_of w + colour_at) c) (half-below_2 w) (half-below_2 v) e))

  pub coloured : (v : ℕ) → 2 ≤ v → colour (put M w colour_at c) v ≡ cond (eqb w v) c (colour M v)
  coloured v n = eq_or w v
      (λ e. rw (← e, eq-eqb w w refl) colour_new)
      (λ d. rw (ne_eqb w v d) (colour-kept v n (λ e. d (sym e))))
