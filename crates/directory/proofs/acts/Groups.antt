-- Going through the groups: the groups end with what is found, or the person leaves one and goes on to the next.
use Prim.Native.Nat.{ℕ, zero, suc, ◌-◌, ◌<◌}
use mathlib.Core.Path.{◌≡◌, refl, sym, ◌∙◌}
use mathlib.Core.Bool.{Bool, true, false, cond}
use lib.Dec.{ltb}
use native.Mathlib.Omega.{arith}
use Rattle.std.specs.Prelude.{Option, Some, None}
use Rattle.rules.specs.Control.{Store}
use Rattle.directory_rules.specs.Acts.{Act, give, ◌>>=◌, ◌>>◌, must, load, perform, Found, ended, failed, word}
use Rattle.directory_rules.specs.Directory.{group_register, next_field, group_mark, members, cut_found, no_group_left, each_group, leaving_all}
use Rattle.directory.specs.Parts.{standing, looking, none_after, ending_at, leaving_one}
use Rattle.directory.proofs.acts.Sequence.{regroup}
use Rattle.directory.proofs.acts.Looking.{looked_at, looks}

-- the groups end with what is found, or go on
abbrev pub entering : Act (Unit {0}) → Option ℕ → Act (Unit {0})
entering on None = give tt
entering on (Some w) = cond (ltb w group_mark) (give tt) on

by_word : (s : Store) (a b : Act (Unit {0})) (f : Found) → perform s a ≡ perform s b → perform s (each_group a f) ≡ perform s (standing f >>= entering b)
by_word s a b ended e = refl
by_word s a b (failed n) e = refl
by_word s a b (word w) e = by (ltb w group_mark)
  where
    by : (t : Bool) → perform s (cond t (give tt) a) ≡ perform s (cond t (give tt) b)
    by true = refl
    by false = e

-- the same acts, taken together otherwise
rest_as : (s : Store) (left half n : ℕ)
    → perform s (members half n >>= λ w. cut_found w >> must (load group_register group_register next_field) >> leaving_all left half n)
    ≡ perform s (leaving_one half n >> leaving_all left half n)
unfolding leaving_one
rest_as s left half n =
    sym (regroup s (members half n) (λ w. cut_found w >> must (load group_register group_register next_field)) (λ x. leaving_all left half n))

-- with a link left to pass
pub groups_step : (s : Store) (left half n : ℕ) → 0 < left
    → perform s (leaving_all left half n) ≡ perform s (looking group_register >>= entering (leaving_one half n >> leaving_all (left - 1) half n))
unfolding looking
groups_step s zero half n h = absurd (omega arith)
groups_step s (suc left) half n h =
    let e : suc left - 1 ≡ left = omega arith in
    let on : Act (Unit {0}) = members half n >>= λ w. cut_found w >> must (load group_register group_register next_field) >> leaving_all left half n in
    let rest : Act (Unit {0}) = leaving_one half n >> leaving_all left half n in
    rw e
    (looks s group_register (each_group on) ∙ by_word s on rest (looked_at s group_register) (rest_as s left half n)
    ∙ sym (looks s group_register (λ f. standing f >>= entering rest)))

-- with none
none_by_word : (s : Store) (f : Found) → perform s (no_group_left f) ≡ perform s (standing f >>= none_after)
none_by_word s ended = refl
none_by_word s (failed n) = refl
none_by_word s (word w) = refl

pub groups_none : (s : Store) (left half n : ℕ) → left ≡ 0 → perform s (leaving_all left half n) ≡ perform s (ending_at group_register)
unfolding ending_at looking
groups_none s zero half n h = looks s group_register no_group_left ∙ none_by_word s (looked_at s group_register) ∙ sym (looks s group_register (λ f. standing f >>= none_after))
groups_none s (suc left) half n h = absurd (omega arith)
