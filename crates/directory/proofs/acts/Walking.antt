-- Walks: the record at hand ends a walk, or the walk goes on from the next.
use Prim.Native.Nat.{ℕ, zero, suc, ◌-◌, ◌<◌}
use mathlib.Core.Path.{◌≡◌, refl, sym, ◌∙◌}
use mathlib.Core.Bool.{Bool, true, false, cond}
use lib.Dec.{eqb, ltb}
use native.Mathlib.Omega.{arith}
use Rattle.std.specs.Prelude.{Option, Some, None}
use Rattle.rules.specs.Control.{Store}
use Rattle.directory_rules.specs.Acts.{Act, give, ◌>>=◌, ◌>>◌, must, load, perform, Found, ended, failed, word}
use Rattle.directory_rules.specs.Directory.{next_field, other_of, place, none_left, judged, seek}
use Rattle.directory_rules.specs.declared.Via.{Via}
use Rattle.directory_rules.specs.declared.Via.TheVariants.{Next}
use Rattle.directory_rules.specs.declared.Place.{Place}
use Rattle.directory.specs.Parts.{standing, looking, none_after, ending_at, judge}
use Rattle.directory.proofs.acts.Looking.{looked_at, looks}

-- a walk ended there, or gone on
abbrev pub judging : ℕ → Via → ℕ → Act Place → Option Bool → Act Place
judging at via left on (Some found) = give (place found at via left)
judging at via left on None = on

by_word : (s : Store) (at : ℕ) (via : Via) (key least left : ℕ) (on : Act Place) (f : Found)
    → perform s (judged at via key least left on f) ≡ perform s (standing f >>= λ w. judging at via left on (judge key least w))
by_word s at via key least left on ended = refl
by_word s at via key least left on (failed n) = refl
by_word s at via key least left on (word w) = by (eqb w key) (ltb w least)
  where
    by : (b d : Bool) → perform s (cond b (give (place true at via left)) (cond d (give (place false at via left)) on))
        ≡ perform s (judging at via left on (cond b (Some true) (cond d (Some false) None)))
    by true d = refl
    by false true = refl
    by false false = refl

-- with a link left to pass
pub seek_step : (s : Store) (left at : ℕ) (via : Via) (key least : ℕ) → 0 < left
    → perform s (seek left at via key least)
    ≡ perform s (looking at >>= λ w. judging at via left (must (load (other_of at) at next_field) >> seek (left - 1) (other_of at) Next key least) (judge key least w))
unfolding looking
seek_step s zero at via key least h = absurd (omega arith)
seek_step s (suc left) at via key least h =
    let e : suc left - 1 ≡ left = omega arith in
    let on : Act Place = must (load (other_of at) at next_field) >> seek left (other_of at) Next key least in
    rw e
    (looks s at (judged at via key least (suc left) on) ∙ by_word s at via key least (suc left) on (looked_at s at)
    ∙ sym (looks s at (λ f. standing f >>= λ w. judging at via (suc left) on (judge key least w))))

-- with none
none_by_word : (s : Store) (at : ℕ) (via : Via) (f : Found) → perform s (none_left at via f) ≡ perform s (standing f >>= none_after >>= λ u. give (place false at via 0))
none_by_word s at via ended = refl
none_by_word s at via (failed n) = refl
none_by_word s at via (word w) = refl

pub seek_none : (s : Store) (left at : ℕ) (via : Via) (key least : ℕ) → left ≡ 0
    → perform s (seek left at via key least) ≡ perform s (ending_at at >>= λ u. give (place false at via 0))
unfolding ending_at looking
seek_none s zero at via key least h =
    looks s at (none_left at via) ∙ none_by_word s at via (looked_at s at) ∙ sym (looks s at (λ f. standing f >>= none_after >>= λ u. give (place false at via 0)))
seek_none s (suc left) at via key least h = absurd (omega arith)
