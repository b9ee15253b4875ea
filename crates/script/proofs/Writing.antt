-- What the entries of a script write, one after another: the text of its lines.
use Prim.Native.Nat.{ℕ, zero, suc, ◌+◌, ◌≤◌, ◌<◌}
use mathlib.Core.Path.{◌≡◌, refl}
use mathlib.Core.Bool.{true, cond}
use mathlib.Core.List.{List, [], ◌∷◌, ◌++◌, append-nil, append_assoc}
use native.Mathlib.Omega.{arith}
use native.Mathlib.Nat.{add-zero}
use lib.ListN.{length, length-append}
use lib.Seq.{sets}
use Rattle.rules.specs.Control.{Store}
use Rattle.rules.specs.Runs.{apply}
use Rattle.rules.specs.Script.{entry_at, by_entry, Line, bad_line, line_of, lines_from, texts_of}
use Rattle.rules.proofs.memory.Cases.{bool_or}
use Rattle.script.specs.Turns.{Left, turn, goes_on, turns}
use Rattle.rules.proofs.memory.Sets.{sets-append}
use Rattle.script.proofs.Bodies.{past_end}
use Rattle.script.proofs.Places.{entry_or, moves_on}
use Rattle.script.proofs.Stopping.{has_more}

-- ---- the lines still to come

-- turns enough are enough
pub lines_enough : (f g : ℕ) (s : Store) (bs : List ℕ) (i n : ℕ) → length bs ≤ i + f → length bs ≤ i + g → lines_from f s bs i n ≡ lines_from g s bs i n
lines_enough zero zero s bs i n p q = refl
lines_enough zero (suc g) s bs i n p q = rw (past_end bs i (omega arith))
lines_enough (suc f) zero s bs i n p q = rw (past_end bs i (omega arith))
lines_enough (suc f) (suc g) s bs i n p q =
    entry_or
    (entry_at bs i)
    (λ e. rw e)
    (λ e. rw e)
    (λ c j e.
    let on : i < j = moves_on bs i e in
    rw (e, lines_enough f g (apply s c).store bs j (n + 1) (omega arith) (omega arith)))

-- with as many turns as there are bytes, after an entry as before it
pub lines_by_entry : (s : Store) (bs : List ℕ) (i n : ℕ) →
    lines_from (length bs) s bs i n
    ≡ by_entry (entry_at bs i) [] (bad_line n ∷ []) (λ c j. line_of n (apply s c).reply ∷ lines_from (length bs) (apply s c).store bs j (n + 1))
lines_by_entry s bs i n = lines_enough (length bs) (suc (length bs)) s bs i n (omega arith) (omega arith)

-- the lines of the entries that are left
abbrev pub lines_left : List ℕ → Left → List Line
lines_left bs x = cond x.more (lines_from (length bs) x.store bs x.at x.number) []

pub texts_append : (ls ms : List Line) → texts_of (ls ++ ms) ≡ texts_of ls ++ texts_of ms
texts_append [] ms = refl
texts_append (l ∷ ls) ms = rw (texts_append ls ms, append_assoc)

-- from x to y the text of some lines was written, which are the first of those that were left
pub record Wrote (bs : List ℕ) (x y : Left) : Type 0 where
  pub lines : List Line
  pub out : y.out ≡ sets x.out x.end (texts_of lines)
  pub end : y.end ≡ x.end + length (texts_of lines)
  pub left : lines_left bs x ≡ lines ++ lines_left bs y

wrote_none : (bs : List ℕ) (x : Left) → Wrote bs x x
wrote_none bs x = record { lines = []; out = refl; end = rw add-zero; left = refl }

pub wrote_then : {bs : List ℕ} {x y z : Left} → Wrote bs x y → Wrote bs y z → Wrote bs x z
wrote_then {bs} {x} {y} {z} v w =
    record {
      lines = v.lines ++ w.lines;
      out = rw (w.out, v.out, v.end, texts_append, sets-append);
      end = rw (w.end, v.end, texts_append, length-append) (omega arith);
      left = rw (v.left, w.left, append_assoc);
    }

wrote_turn : (bs : List ℕ) (x : Left) → x.more ≡ true → Wrote bs x (turn bs x)
unfolding turn
wrote_turn bs x more =
    let first = lines_by_entry x.store bs x.at x.number in
    entry_or
    (entry_at bs x.at)
    (λ e. record { lines = []; out = rw e; end = rw (e, add-zero); left = rw (more, first, e) })
    (λ e.
    record {
      lines = bad_line x.number ∷ [];
      out = rw (e, append-nil);
      end = rw (e, append-nil);
      left = rw (more, first, e);
    })
    (λ c j e.
    record {
      lines = line_of x.number (apply x.store c).reply ∷ [];
      out = rw (e, append-nil);
      end = rw (e, append-nil);
      left = rw (more, first, e);
    })

-- what is written is the text of lines, and these are the next lines of the script
pub turns_lines : (k stop : ℕ) (bs : List ℕ) (x : Left) → Wrote bs x (turns k stop bs x)
turns_lines zero stop bs x = wrote_none bs x
turns_lines (suc k) stop bs x =
    bool_or
    (goes_on stop x)
    (λ e. rw e (wrote_then (wrote_turn bs x (has_more stop x e)) (turns_lines k stop bs (turn bs x))))
    (λ e. rw e (wrote_none bs x))
