-- Replies that are refusals, by their numbers, and those that are none.
use Prim.Native.Nat.{ℕ}
use mathlib.Core.Path.{◌≡◌, sym, ◌∙◌, ap}
use mathlib.Core.Logic.{◌≢◌}
use mathlib.Core.Bool.{false, true≢false}
use Rattle.rules.specs.Refusals.{Reply, answer, words, is_refusal, number_of}
use Rattle.rules.specs.Answers.{Refused}

-- refusals differ where their numbers do
abbrev pub number_in : Reply → ℕ
number_in (answer a) = number_of a
number_in (words ws) = 0

pub refusal-number : (n k : ℕ) → n ≢ k → answer (Refused n) ≢ answer (Refused k)
refusal-number n k d e = d (ap number_in e)

pub unrefused : (r : Reply) (k : ℕ) → is_refusal r ≡ false → r ≢ answer (Refused k)
unrefused r k h e = true≢false (sym (ap is_refusal e) ∙ h)
