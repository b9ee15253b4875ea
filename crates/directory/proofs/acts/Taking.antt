-- Taking the words of a chain's first records, one after another.
use Prim.Native.Nat.{ℕ, zero, suc, ◌+◌, ◌-◌, ◌<◌}
use mathlib.Core.Path.{◌≡◌, refl, sym, ap, ◌∙◌}
use mathlib.Core.List.{List, [], ◌∷◌, ◌++◌, append_assoc}
use lib.ListN.{length, set, take, length-set}
use lib.Seq.{take-suc-set}
use native.Mathlib.Numerals.{add-one}
use native.Mathlib.Omega.{arith}
use Rattle.std.specs.Prelude.{Option, Some, None, Ok}
use Rattle.rules.specs.Refusals.{Tested, refused, passed}
use Rattle.rules.specs.Control.{Store}
use Rattle.directory_rules.specs.Acts.{Act, stop, give, ◌>>=◌, must, load, at_null, Performed, perform, Found, ended, failed, word}
use Rattle.directory_rules.specs.Directory.{next_field, first_field, group_register, taken, taking, taking_first}
use Rattle.directory.specs.View.{left_in}
use Rattle.directory.specs.Parts.{standing, pass_on, passing}
use Rattle.directory.proofs.acts.Sequence.{after, onward, regroup}
use Rattle.directory.proofs.acts.Looking.{looked_at, looks}
use Rattle.directory.proofs.acts.Counting.{passing_step}

-- a word taken, and the rest of them
abbrev pub taken_then : Act (List ℕ) → Option ℕ → Act (List ℕ)
taken_then on None = stop at_null
taken_then on (Some w) = on >>= λ xs. give (w ∷ xs)

one_taken : (s : Store) (on : Act (List ℕ)) (f : Found)
    → perform s (taken f >>= λ x. must (load 0 0 next_field) >>= λ u. on >>= λ xs. give (x ∷ xs)) ≡ perform s (standing f >>= pass_on >>= taken_then on)
one_taken s on ended = refl
one_taken s on (failed n) = refl
one_taken s on (word w) = sym (regroup s (must (load 0 0 next_field)) (λ x. give (Some w)) (taken_then on))

pub taking_step : (s : Store) (k : ℕ) → 0 < k → perform s (taking k) ≡ perform s (passing >>= taken_then (taking (k - 1)))
taking_step s zero h = absurd (omega arith)
taking_step s (suc k) h =
    let e : suc k - 1 ≡ k = omega arith in
    rw e
    (looks s 0 (λ f. taken f >>= λ x. must (load 0 0 next_field) >>= λ u. taking k >>= λ xs. give (x ∷ xs))
    ∙ one_taken s (taking k) (looked_at s 0) ∙ sym (passing_step s (taken_then (taking k))))

-- ---- words before those that are still to be taken

abbrev ahead_of : List ℕ → Tested (List ℕ) → Tested (List ℕ)
ahead_of ys (refused n) = refused n
ahead_of ys (passed xs) = passed (ys ++ xs)

abbrev pub ahead : List ℕ → Performed Store (List ℕ) → Performed Store (List ℕ)
ahead ys p = record { store = p.store; result = ahead_of ys p.result }

-- one word before the others, as an act
more_ahead : (ys : List ℕ) (w : ℕ) (p : Performed Store (List ℕ)) → ahead ys (onward p.store p.result (λ xs. give (w ∷ xs))) ≡ ahead (ys ++ (w ∷ [])) p
more_ahead ys w p = by p.result
  where
    by : (t : Tested (List ℕ)) → ahead ys (onward p.store t (λ xs. give (w ∷ xs))) ≡ ahead (ys ++ (w ∷ [])) (record { store = p.store; result = t })
    by (refused n) = refl
    by (passed xs) = rw append_assoc

word_ahead : (ys : List ℕ) (s : Store) (a : Act (List ℕ)) (w : ℕ) → ahead ys (perform s (a >>= λ xs. give (w ∷ xs))) ≡ ahead (ys ++ (w ∷ [])) (perform s a)
word_ahead ys s a w = ap (ahead ys) (after s a (λ xs. give (w ∷ xs))) ∙ more_ahead ys w (perform s a)

-- ---- the loop: the first i words are taken

abbrev pub Underway : Performed Store (List ℕ) → Store → ℕ → List ℕ → Type 0
Underway p s i ws = p ≡ ahead (take i ws) (perform s (taking (length ws - i)))

pub taken_word : (p : Performed Store (List ℕ)) (s t : Store) (i w : ℕ) (ws : List ℕ) → Underway p s i ws → i < length ws → left_in t (Ok (Some w)) ≡ perform s passing
    → Underway p t (i + 1) (set ws i w)
taken_word p s t i w ws u h e =
    let k : length ws - i - 1 ≡ length ws - (i + 1) = omega arith in
    let more : 0 < length ws - i = omega arith in
    let on : Act (List ℕ) = taking (length ws - (i + 1)) in
    let a : perform s (taking (length ws - i)) ≡ perform t (on >>= λ xs. give (w ∷ xs)) =
    taking_step s (length ws - i) more ∙ rw k (after s passing (taken_then on) ∙ rw (← e)) in
    let b : take (i + 1) (set ws i w) ≡ take i ws ++ (w ∷ []) = rw (add-one, take-suc-set ws i w h) in
    rw (b, length-set) (u ∙ ap (ahead (take i ws)) a ∙ word_ahead (take i ws) t on w)

-- ---- the first members

pub first_step : (s : Store) (k : ℕ) → 0 < k → perform s (taking_first k) ≡ perform s (must (load 0 group_register first_field) >>= λ u. taking k)
first_step s zero h = absurd (omega arith)
first_step s (suc k) h = refl
