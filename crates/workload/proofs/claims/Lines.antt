-- The lines of a load: those of its calls, one after another. None has the number 15, there is one for each entry, and those of a
-- shorter load come first in those of a longer one.
use Prim.Native.Nat.{ℕ, zero, suc, ◌+◌}
use mathlib.Core.Path.{◌≡◌, refl, ap}
use mathlib.Core.Logic.{◌≢◌}
use mathlib.Core.Bool.{true, false}
use mathlib.Core.List.{List, [], ◌∷◌, Memᴰ}
use native.Mathlib.Nat.{suc-add}
use native.Mathlib.Omega.{arith}
use borrow.Author.Tests.{ne_eqb}
use lib.Dec.{eqb}
use lib.ListN.{length, take}
use Rattle.rules.specs.Refusals.{Reply, answer, words}
use Rattle.rules.specs.Control.{Store}
use Rattle.rules.specs.Runs.{Call, apply}
use Rattle.rules.specs.Script.{Line, line_of, lines_from, lines_of}
use Rattle.rules.specs.Claims.{Numbers}
use Rattle.rules.specs.Answers.{Refused, Done, Word, Same, Phase}
use Rattle.rules.proofs.memory.Cases.{bool_or}
use Rattle.rules.proofs.claims.Numbers.{numbers}
use Rattle.workload.specs.Load.{xorshift32, draw, call_drawn, calls_from, load_of, seed_in, count_in, accepted, generate}
use Rattle.workload.specs.Claims.{NoCall15, without, No15, LineEach, FirstLines}
use Rattle.workload.proofs.claims.Reading.{Finds, no_more, one_more, load_found}

-- ---- the lines of calls

-- made on a store, the first of them as entry n
abbrev pub call_lines : Store → ℕ → List Call → List Line
call_lines s n [] = []
call_lines s n (c ∷ cs) = line_of n (apply s c).reply ∷ call_lines (apply s c).store (n + 1) cs

-- where the script's reading finds these calls, it writes their lines
lined : {bs : List ℕ} {turns i : ℕ} {cs : List Call} (s : Store) (n : ℕ) → Finds bs turns i cs → lines_from turns s bs i n ≡ call_lines s n cs
lined s n (no_more e) = rw e
lined s n (one_more {c = c} e f) = rw (e, lined (apply s c).store (n + 1) f)

pub load_lines : (s : Store) (seed count : ℕ) → lines_of s (load_of seed count) ≡ call_lines s 1 (calls_from count (xorshift32 seed))
unfolding lines_of load_of
load_lines s seed count = lined s 1 (load_found seed count)

-- an output that isn't empty is a load
pub some_load : (bs : List ℕ) → generate bs ≢ [] → generate bs ≡ load_of (seed_in bs) (count_in bs)
unfolding generate
some_load bs some = bool_or (accepted bs) (λ e. rw e) (λ e. absurd (some (rw e)))

-- ---- number 15

-- a number that isn't any of these
abbrev Apart : ℕ → List ℕ → Type 0
Apart n [] = Unit {0}
Apart n (k ∷ ks) = (n ≢ k) × Apart n ks

apart : {n : ℕ} {ks : List ℕ} → Memᴰ n ks → Apart n ks → ⊥
apart (Memᴰ.head e) a = a.0 e
apart (Memᴰ.tail m) a = apart m a.1

pub no_call_15 : NoCall15
unfolding NoCall15 Numbers
no_call_15 s c e = apart (numbers s c 15 e).0 (omega arith)

-- the line of a reply that isn't 15
line_15 : (n : ℕ) (r : Reply) → r ≢ answer (Refused 15) → eqb (line_of n r).refusal 15 ≡ false
line_15 n (answer (Refused k)) h = ne_eqb k 15 (λ e. h (rw e))
line_15 n (answer Done) h = refl
line_15 n (answer (Word w)) h = refl
line_15 n (answer (Same b)) h = refl
line_15 n (answer (Phase p)) h = refl
line_15 n (words ws) h = refl

lines_without : (s : Store) (n : ℕ) (cs : List Call) → without 15 (call_lines s n cs) ≡ true
unfolding NoCall15
lines_without s n [] = refl
lines_without s n (c ∷ cs) = rw (line_15 n (apply s c).reply (no_call_15 s c), lines_without (apply s c).store (n + 1) cs)

pub no_15 : No15
unfolding No15
no_15 s bs some = rw (some_load bs some, load_lines, lines_without)

-- ---- a line for each entry

lines_length : (count : ℕ) (s : Store) (n x : ℕ) → length (call_lines s n (calls_from count x)) ≡ count
lines_length zero s n x = refl
lines_length (suc count) s n x = ap suc (lines_length count (apply s (call_drawn (draw x))).store (n + 1) (draw x).next)

pub line_each : LineEach
unfolding LineEach
line_each s bs some = rw (some_load bs some, load_lines, lines_length)

-- ---- the first lines

lines_first : (n : ℕ) (s : Store) (k m x : ℕ) → take n (call_lines s k (calls_from (n + m) x)) ≡ call_lines s k (calls_from n x)
lines_first zero s k m x = refl
lines_first (suc n) s k m x = rw (suc-add, lines_first n (apply s (call_drawn (draw x))).store (k + 1) m (draw x).next)

pub first_lines : FirstLines
unfolding FirstLines
first_lines s seed n m = rw (load_lines s seed (n + m), load_lines s seed n, lines_first)
