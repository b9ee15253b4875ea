-- What is written out where the entries of a script are done some at a time: the text of its lines.
use Prim.Native.Nat.{ℕ, ◌+◌, ◌≤◌}
use mathlib.Core.Path.{◌≡◌, refl, ap, ◌∙◌}
use mathlib.Core.Bool.{false}
use mathlib.Core.List.{List, [], ◌++◌, append-nil, append_assoc}
use mathlib.Core.Logic.{◌⊎◌}
use native.Mathlib.Omega.{arith}
use borrow.Author.Tests.{eq-eqb}
use lib.ListN.{length, get_or, take}
use lib.Seq.{length-sets}
use Rattle.rules.specs.Control.{Store}
use Rattle.rules.specs.Script.{lines_of, texts_of}
use Rattle.rules.proofs.memory.Cases.{bool_or, either}
use Rattle.rules.proofs.memory.Sets.{take-sets}
use Rattle.script.specs.Turns.{Left, begun, turns}
use Rattle.script.proofs.Bodies.{past_end}
use Rattle.script.proofs.Writing.{lines_left, lines_by_entry, texts_append, Wrote, turns_lines}

-- ---- the text in the output

-- the text in the output and the text of the lines that are left, together, stay the same
wrote_text : {bs : List ℕ} {x y : Left} → Wrote bs x y → y.end ≤ length y.out →
    take y.end y.out ++ texts_of (lines_left bs y) ≡ take x.end x.out ++ texts_of (lines_left bs x)
wrote_text {bs} {x} {y} w fits =
    let same : length y.out ≡ length x.out = ap length w.out ∙ length-sets x.out x.end (texts_of w.lines) in
    let end = w.end in
    let room : x.end + length (texts_of w.lines) ≤ length x.out = omega arith in
    let text : take y.end y.out ≡ take x.end x.out ++ texts_of w.lines =
    rw (w.out, w.end) (take-sets x.out (texts_of w.lines) x.end room) in
    rw (text, w.left, texts_append, append_assoc)

-- ---- some entries at a time

-- the output written out, and free again
abbrev pub emptied : Left → Left
emptied x =
    record { store = x.store; at = x.at; number = x.number; out = x.out; end = 0; more = x.more }

-- from x to y entries are done, some at a time, and the output is written out now and then: t in all
pub data Handed (bs : List ℕ) : Left → List ℕ → Left → Type 0 where
  none : {x : Left} → Handed bs x [] x
  write-out : {x y : Left} {t : List ℕ} → Handed bs (emptied x) t y → Handed bs x (take x.end x.out ++ t) y
  take-turns : {x y : Left} {t : List ℕ} (stop : ℕ) → (turns stop stop bs x).end ≤ length (turns stop stop bs x).out →
      Handed bs (turns stop stop bs x) t y → Handed bs x t y

pub handed_text : {bs : List ℕ} {x y : Left} {t : List ℕ} → Handed bs x t y →
    t ++ (take y.end y.out ++ texts_of (lines_left bs y)) ≡ take x.end x.out ++ texts_of (lines_left bs x)
handed_text none = refl
handed_text (write-out h) = rw (append_assoc, handed_text h)
handed_text {bs} {x} (take-turns stop fits h) = handed_text h ∙ wrote_text (turns_lines stop stop bs x) fits

-- ---- the whole script

none_left : (bs : List ℕ) (y : Left) → (y.more ≡ false) ⊎ (length bs ≤ y.at) → lines_left bs y ≡ []
none_left bs y over =
    either
    over
    (λ e. rw e)
    (λ past.
    bool_or
    y.more
    (λ e. rw (e, lines_by_entry y.store bs y.at y.number, past_end bs y.at past))
    (λ e. rw e))

-- before entry 1, which stands after the version byte
begun_lines : (s : Store) (bs out : List ℕ) → get_or bs 0 0 ≡ 1 → lines_left bs (begun s 1 1 out 0) ≡ lines_of s bs
unfolding lines_of
begun_lines s bs out version = rw (eq-eqb (get_or bs 0 0) 1 version)

-- all that is written out from the first entry to the last is the text of the script's lines
pub script_text : (s : Store) (bs out : List ℕ) {t : List ℕ} {y : Left} → get_or bs 0 0 ≡ 1 → Handed bs (begun s 1 1 out 0) t y →
    (y.more ≡ false) ⊎ (length bs ≤ y.at) → t ++ take y.end y.out ≡ texts_of (lines_of s bs)
script_text s bs out {t} {y} version h over =
    let last : take y.end y.out ++ texts_of (lines_left bs y) ≡ take y.end y.out = rw (none_left bs y over, append-nil) in
    rw (← last, handed_text h, begun_lines s bs out version)
