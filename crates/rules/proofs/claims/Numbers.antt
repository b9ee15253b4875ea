-- The numbers of refusals: a refused call's number is among `store_numbers`, and among `allocation_numbers` only of an allocation, on any
-- store.
-- A number comes from a test that fails, and each test of a rule has such a number.
use Prim.Native.Nat.{ℕ}
use mathlib.Core.Path.{◌≡◌, sym, ap}
use mathlib.Core.Bool.{Bool, true, true≢false, or-true}
use mathlib.Core.List.{List, [], ◌∷◌, Memᴰ}
use lib.Dec.{eqb}
use borrow.Author.Tests.{eqb-true, eq-eqb}
use Rattle.rules.specs.Refusals.{answer, Outcome}
use Rattle.rules.specs.Control.{Store}
use Rattle.rules.specs.Runs.{Call, is_allocation}
use Rattle.rules.specs.Claims.{store_numbers, allocation_numbers, Numbers}
use Rattle.rules.specs.Answers.{Refused}
use Rattle.rules.proofs.memory.Cases.{bool_or}
use Rattle.rules.proofs.relation.Rows.{listed, Allowed, allowed}
use Rattle.rules.proofs.relation.Rules.{CallEnds, refusal, success, call_ends}
use Rattle.rules.proofs.relation.Replies.{unrefused, number_in}

pub member : (n : ℕ) (ks : List ℕ) → listed n ks ≡ true → Memᴰ n ks
member n [] e = absurd (true≢false (sym e))
member n (k ∷ ks) e = bool_or (eqb n k)
    (λ y. Memᴰ.head (eqb-true n k y))
    (λ y. Memᴰ.tail (member n ks (rw y at e)))

listed_in : {n : ℕ} {ks : List ℕ} → Memᴰ n ks → listed n ks ≡ true
listed_in {n} (Memᴰ.head {x} e) = rw (eq-eqb n x e)
listed_in {n} (Memᴰ.tail {x} i) = rw (listed_in i) (or-true (eqb n x))

-- what is claimed of a number
abbrev Claimed : Bool → ℕ → Type 0
Claimed room n = Memᴰ n store_numbers × (Memᴰ n allocation_numbers → room ≡ true)

claimed : {room : Bool} {n : ℕ} → Allowed room n → Claimed room n
claimed {n = n} (allowed e f) = (member n store_numbers e, λ q. rw (listed_in q) at f)

of_call : {c : Call} {s : Store} {o : Outcome Store} → CallEnds c s o → (n : ℕ) → o.reply ≡ answer (Refused n) → Claimed (is_allocation c) n
of_call (refusal k a) n e = rw (ap number_in e) at (claimed a)
of_call (success o h) n e = absurd (unrefused o.reply n h.reply e)

pub numbers : Numbers
unfolding Numbers
numbers s c = of_call (call_ends s c)
