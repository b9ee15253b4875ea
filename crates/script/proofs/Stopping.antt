-- How long the entries go on, one after another.
use Prim.Native.Nat.{ℕ, zero, suc, ◌+◌, ◌≤◌, ◌<◌}
use mathlib.Core.Path.{◌≡◌, refl}
use mathlib.Core.Bool.{true, false}
use mathlib.Core.List.{List}
use mathlib.Core.Logic.{◌⊎◌, inl, inr}
use native.Mathlib.Omega.{arith}
use borrow.Author.Tests.{le-ltb}
use Rattle.rules.specs.Script.{entry_at}
use Rattle.rules.proofs.memory.Cases.{bool_or, either}
use Rattle.script.specs.Turns.{Left, turn, goes_on, turns}
use Rattle.script.proofs.Places.{entry_or, moves_on}

-- ---- whether the next entry is done

pub no_more : (stop : ℕ) (x : Left) → x.more ≡ false → goes_on stop x ≡ false
unfolding goes_on
no_more stop x e = rw e

pub arrived : (stop : ℕ) (x : Left) → stop ≤ x.at → goes_on stop x ≡ false
unfolding goes_on
arrived stop x past = bool_or x.more (λ e. rw (e, le-ltb x.at stop past)) (λ e. rw e)

pub has_more : (stop : ℕ) (x : Left) → goes_on stop x ≡ true → x.more ≡ true
has_more stop x on =
    bool_or
    x.more
    (λ e. e)
    (λ e. cc (no_more stop x e))

turn_moves : (bs : List ℕ) (x : Left) → ((turn bs x).more ≡ false) ⊎ (x.at < (turn bs x).at)
unfolding turn
turn_moves bs x =
    entry_or
    (entry_at bs x.at)
    (λ e. rw e (inl refl))
    (λ e. rw e (inl refl))
    (λ c j e. rw e (inr (moves_on bs x.at e)))

-- ---- turns enough are enough

pub turns_stay : (k stop : ℕ) (bs : List ℕ) (x : Left) → goes_on stop x ≡ false → turns k stop bs x ≡ x
turns_stay zero stop bs x e = refl
turns_stay (suc k) stop bs x e = rw e

-- after them nothing goes on
pub turns-end : (k stop : ℕ) (bs : List ℕ) (x : Left) → stop ≤ x.at + k → goes_on stop (turns k stop bs x) ≡ false
turns-end zero stop bs x far = arrived stop x (omega arith)
turns-end (suc k) stop bs x far =
    bool_or
    (goes_on stop x)
    (λ e.
    rw e
    (either
    (turn_moves bs x)
    (λ over. rw (turns_stay k stop bs (turn bs x) (no_more stop (turn bs x) over)) (no_more stop (turn bs x) over))
    (λ on. turns-end k stop bs (turn bs x) (omega arith))))
    (λ e. rw e e)

-- as many turns as the place where they stop
pub turns_enough : (stop : ℕ) (bs : List ℕ) (x : Left) → goes_on stop (turns stop stop bs x) ≡ false
turns_enough stop bs x = turns-end stop stop bs x (omega arith)

-- more of them change nothing
turn-same : (k m stop : ℕ) (bs : List ℕ) (x : Left) → turns k stop bs (turn bs x) ≡ turns m stop bs (turn bs x) →
    turns (suc k) stop bs x ≡ turns (suc m) stop bs x
turn-same k m stop bs x e = rw e

stay_same : (k m stop : ℕ) (bs : List ℕ) (x : Left) → goes_on stop x ≡ false → turns k stop bs x ≡ turns m stop bs x
stay_same k m stop bs x e = rw (turns_stay k stop bs x e, turns_stay m stop bs x e)

pub turns_same : (k m stop : ℕ) (bs : List ℕ) (x : Left) → stop ≤ x.at + k → stop ≤ x.at + m → turns k stop bs x ≡ turns m stop bs x
turns_same zero m stop bs x p q = stay_same zero m stop bs x (arrived stop x (omega arith))
turns_same (suc k) zero stop bs x p q = stay_same (suc k) zero stop bs x (arrived stop x (omega arith))
turns_same (suc k) (suc m) stop bs x p q =
    turn-same
    k
    m
    stop
    bs
    x
    (either
    (turn_moves bs x)
    (λ over. stay_same k m stop bs (turn bs x) (no_more stop (turn bs x) over))
    (λ on. turns_same k m stop bs (turn bs x) (omega arith) (omega arith)))
