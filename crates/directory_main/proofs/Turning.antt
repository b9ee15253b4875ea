-- What one entry leaves: by a request with its line, or as the script does it.
use Prim.Native.Nat.{ℕ, zero, suc, ◌+◌, ◌≤◌, min}
use mathlib.Core.Path.{◌≡◌, refl, ap}
use mathlib.Core.Bool.{true}
use mathlib.Core.List.{List, [], ◌∷◌}
use native.Mathlib.Omega.{arith}
use lib.ListN.{length, take, replicate}
use lib.Seq.{sets}
use Rattle.std.specs.Prelude.{None, Some}
use Rattle.std.proofs.lemmas.List.{take_min}
use Rattle.rules.specs.Control.{Store}
use Rattle.script.specs.Turns as script
use Rattle.script.specs.declared.turns.Turn.{Turn}
use Rattle.directory_rules.specs.Directory.{directory_call}
use Rattle.directory.specs.Answers.{number_of, count_of}
use Rattle.directory.specs.View.{left}
use Rattle.directory.specs.declared.Reply.{Reply}
use Rattle.directory_main.specs.declared.entries.Request.{Request}
use Rattle.directory_main.specs.declared.entries.Request.TheVariants.{Open, Add, Remove, Make, Join, Leave, List as Members}
use Rattle.directory_main.specs.Entries.{asked, lent_by, entry_of}
use Rattle.directory_main.specs.Lines.{line_text}
use Rattle.directory_main.specs.Turns.{words_of, Left, turned, own_turn, other_turn, turn_of}

-- ---- the words shown

none_lent : (k : ℕ) (ws : List ℕ) → length ws ≡ 0 → take (min k (length ws)) ws ≡ take k []
none_lent k [] e = take_min k []
none_lent k (w ∷ ws) e = absurd (omega arith)

-- of those lent, as many as there are members
pub shown_words : (q : Request) (k : ℕ) (ws : List ℕ) → length ws ≡ lent_by q → take (min k (length ws)) ws ≡ take k (words_of q ws)
shown_words Open k ws e = none_lent k ws e
shown_words (Add n) k ws e = none_lent k ws e
shown_words (Remove n) k ws e = none_lent k ws e
shown_words (Make g) k ws e = none_lent k ws e
shown_words (Join n g) k ws e = none_lent k ws e
shown_words (Leave n g) k ws e = none_lent k ws e
shown_words (Members g m) k ws e = take_min k ws

-- words that are all 0
pub take_zeros : (n m : ℕ) → n ≤ m → take n (replicate {A = ℕ} m 0) ≡ replicate n 0
take_zeros zero m small = refl
take_zeros (suc n) zero small = absurd (omega arith)
take_zeros (suc n) (suc m) small = ap {B = List ℕ} (λ r. 0 ∷ r) (take_zeros n m (omega arith))

-- ---- one entry

module _ (s : Store) (n : ℕ) (out : List ℕ) (at : ℕ) where
  -- a request was made, and its line written
  pub own-turned : (q : Request) (ws : List ℕ) (r : Reply) (t : Turn) (h0 h1 l shown given out' : List ℕ) (end : ℕ) →
      left r h0 h1 l given ≡ directory_call s (asked q ws) → shown ≡ take (count_of r.answer) given →
      end ≡ at + length (line_text n (number_of r.answer) (count_of r.answer) shown) → out' ≡ sets out at (line_text n (number_of r.answer) (count_of r.answer) shown) →
      turned (record t { control = r.control; end = end; more = true }) h0 h1 l out' ≡ own_turn s q ws n out at
  unfolding own_turn
  own-turned q ws r t h0 h1 l shown given out' end made some e f = rw (← made, e, f, some)

  pub own-entry : (b : List ℕ) (q : Request) (ws : List ℕ) {x : Left} → entry_of b ≡ Some q → ws ≡ replicate (lent_by q) 0 →
      x ≡ own_turn s q ws n out at → x ≡ turn_of s b n out at
  unfolding turn_of
  own-entry b q ws own zeros e = rw (own, ← zeros) e

  -- the script did it
  pub other_entry : (b : List ℕ) (t : Turn) (h0 h1 l out' : List ℕ) → entry_of b ≡ None →
      script.turned t h0 h1 l out' ≡ script.turns 1 1 b (script.begun s 0 n out at) →
      turned t h0 h1 l out' ≡ turn_of s b n out at
  unfolding turn_of other_turn
  other_entry b t h0 h1 l out' other done = rw (other, ← done)
