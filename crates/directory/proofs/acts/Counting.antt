-- Counting the records of a chain by passing one after another.
use Prim.Native.Nat.{ℕ, zero, suc, ◌+◌, ◌-◌, ◌<◌}
use mathlib.Core.Path.{◌≡◌, refl, sym, ◌∙◌}
use native.Mathlib.Numerals.{add-one}
use native.Mathlib.Omega.{arith}
use Rattle.std.specs.Prelude.{Option, Some, None}
use Rattle.rules.specs.Control.{Store}
use Rattle.directory_rules.specs.Acts.{Act, give, ◌>>=◌, ◌>>◌, must, load, perform, Found, ended, failed, word}
use Rattle.directory_rules.specs.Directory.{next_field, none_counted, counted, counting}
use Rattle.directory.specs.Parts.{standing, looking, none_after, ending_at, pass_on, passing}
use Rattle.directory.proofs.acts.Sequence.{regroup}
use Rattle.directory.proofs.acts.Looking.{looked_at, looks}

-- a record passed
pub passing_step : {A : Type 0} (s : Store) (k : Option ℕ → Act A) → perform s (passing >>= k) ≡ perform s (standing (looked_at s 0) >>= pass_on >>= k)
unfolding passing looking
passing_step s k = looks s 0 (λ f. standing f >>= pass_on >>= k)

-- the chain ended, or gone on from
abbrev pub on_counted : ℕ → Act ℕ → Option ℕ → Act ℕ
on_counted k on None = give k
on_counted k on (Some w) = on

by_word : (k : ℕ) (s : Store) (on : Act ℕ) (f : Found)
    → perform s (counted k (must (load 0 0 next_field) >> on) f) ≡ perform s (standing f >>= pass_on >>= on_counted k on)
by_word k s on ended = refl
by_word k s on (failed n) = refl
by_word k s on (word w) = sym (regroup s (must (load 0 0 next_field)) (λ x. give (Some w)) (on_counted k on))

-- with a link left to pass
pub counting_step : (s : Store) (left k : ℕ) → 0 < left → perform s (counting left k) ≡ perform s (passing >>= on_counted k (counting (left - 1) (k + 1)))
counting_step s zero k h = absurd (omega arith)
counting_step s (suc left) k h =
    let e : suc left - 1 ≡ left = omega arith in
    rw (e, add-one)
    (looks s 0 (counted k (must (load 0 0 next_field) >> counting left (suc k))) ∙ by_word k s (counting left (suc k)) (looked_at s 0)
    ∙ sym (passing_step s (on_counted k (counting left (suc k)))))

-- with none
none_by_word : (k : ℕ) (s : Store) (f : Found) → perform s (none_counted k f) ≡ perform s (standing f >>= none_after >>= λ u. give k)
none_by_word k s ended = refl
none_by_word k s (failed n) = refl
none_by_word k s (word w) = refl

pub counting_none : (s : Store) (left k : ℕ) → left ≡ 0 → perform s (counting left k) ≡ perform s (ending_at 0 >>= λ u. give k)
unfolding ending_at looking
counting_none s zero k h = looks s 0 (none_counted k) ∙ none_by_word k s (looked_at s 0) ∙ sym (looks s 0 (λ f. standing f >>= none_after >>= λ u. give k))
counting_none s (suc left) k h = absurd (omega arith)
