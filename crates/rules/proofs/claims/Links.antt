-- The claims of request [8]: several links are single stores in list order. A rule's refusal is the first of its tests that fails, so the fold of
-- single stores ends with the first that is refused.
use Prim.Native.Nat.{ℕ}
use mathlib.Core.Path.{◌≡◌, refl, sym, ap, ◌∙◌}
use mathlib.Core.Bool.{Bool, true, false}
use mathlib.Core.List.{List, [], ◌∷◌}
use native.Mathlib.Omega.{arith}
use lib.ListN.{take}
use borrow.Author.Tests.{le-leb, lt-leb}
use Rattle.rules.specs.Refusals.{Tested, refused, passed, check, ◌>>=◌, ◌>>◌, answer, Outcome, settle, done}
use Rattle.rules.specs.Control.{Store}
use Rattle.rules.specs.Calls as calls
use Rattle.rules.specs.Calls.{session_of, most_links, is_count, store_each, store_links}
use Rattle.rules.specs.Runs.{Call, StoreRef, StoreLinks, apply, run, after}
use Rattle.rules.specs.Claims.{single_stores, first_refusal, LinksCounted, LinksAnswer, LinksStored, OneLink}
use Rattle.rules.specs.declared.Session.{Session}
use Rattle.rules.specs.declared.Link.{Link}
use Rattle.rules.specs.Answers.{Done}
use Rattle.rules.proofs.relation.Replies.{unrefused}
use Rattle.rules.proofs.relation.Rows.{refuses, passes}
use Rattle.rules.proofs.relation.Rules.{RuleEnds, store_ends}

-- ---- the fold

-- a rule's reply is the same whatever store is handed back where it is refused
reply_any : (s t : Store) (m : Tested (Outcome Store)) → (settle s m).reply ≡ (settle t m).reply
reply_any s t (refused n) = refl
reply_any s t (passed o) = refl

-- one store before others
first_then : {c : Call} {s : Store} {m : Tested (Outcome Store)} (k : Outcome Store → Tested (Outcome Store)) (cs : List Call) → RuleEnds c s m
    → ((o : Outcome Store) → (settle o.store (k o)).reply ≡ first_refusal (run o.store cs))
    → (settle s (m >>= k)).reply ≡ first_refusal ((settle s m).reply ∷ run (settle s m).store cs)
first_then k cs (refuses n a) ih = refl
first_then {s = s} k cs (passes o h) ih = rw h.reply (reply_any s o.store (k o) ∙ ih o)

each_answer : (s : Store) (n k : ℕ) (xs : List Link) → (settle s (store_each s n k xs)).reply ≡ first_refusal (run s (single_stores n k xs))
each_answer s n k [] = refl
each_answer s n k (x ∷ xs) = first_then _ (single_stores n k xs) (store_ends s n k x.field x.from) (λ o. each_answer o.store n k xs)

-- what a rule passes with
abbrev outcome_or : Outcome Store → Tested (Outcome Store) → Outcome Store
outcome_or o (refused n) = o
outcome_or o (passed u) = u

not-passed : (n : ℕ) (u : Outcome Store) → refused n ≡ passed u → ⊥
not-passed n u e = let z : ◌≡◌ {A = ℕ} 0 1 = ap kind e in omega arith
  where
    kind : Tested (Outcome Store) → ℕ
    kind (refused n) = 0
    kind (passed o) = 1

-- one store before others, where all of them are done
stored_then : {c : Call} {s : Store} {m : Tested (Outcome Store)} (k : Outcome Store → Tested (Outcome Store)) (cs : List Call) → RuleEnds c s m
    → ((o u : Outcome Store) → k o ≡ passed u → u.store ≡ after o.store cs)
    → (u : Outcome Store) → (m >>= k) ≡ passed u → u.store ≡ after (settle s m).store cs
stored_then k cs (refuses n a) ih u e = absurd (not-passed n u e)
stored_then k cs (passes o h) ih u e = ih o u e

each_stored : (s : Store) (n k : ℕ) (xs : List Link) (u : Outcome Store) → store_each s n k xs ≡ passed u → u.store ≡ after s (single_stores n k xs)
each_stored s n k [] u e = sym (ap (λ m. (outcome_or u m).store) e)
each_stored s n k (x ∷ xs) u e = stored_then _ (single_stores n k xs) (store_ends s n k x.field x.from) (λ o. each_stored o.store n k xs) u e

-- ---- the claims

pub links_counted : LinksCounted
unfolding LinksCounted store_links is_count
links_counted s n k count xs = (λ r e. rw e, λ e l. rw (e, lt-leb count most_links (omega arith)), λ e. rw e)

pub links_answer : LinksAnswer
unfolding LinksAnswer store_links is_count
links_answer s n k count xs e l = rw (e, le-leb count most_links (omega arith)) (each_answer s n k (take count xs))

pub links_stored : LinksStored
unfolding LinksStored store_links
links_stored s n k count xs = of_tests (session_of s n) (is_count count) (store_each s n k (take count xs)) (each_stored s n k (take count xs))
  where
    of_tests : (t : Tested Session) (b : Bool) (m : Tested (Outcome Store)) {a : Store} → ((u : Outcome Store) → m ≡ passed u → u.store ≡ a)
        → (settle s (t >>= λ x. check b 10 >> m)).reply ≡ answer Done → (settle s (t >>= λ x. check b 10 >> m)).store ≡ a
    of_tests (refused r) b m f e = absurd (unrefused (answer Done) r refl (sym e))
    of_tests (passed x) false m f e = absurd (unrefused (answer Done) 10 refl (sym e))
    of_tests (passed x) true (refused r) f e = absurd (unrefused (answer Done) r refl (sym e))
    of_tests (passed x) true (passed u) f e = f u refl

-- a store tests its session first
session-first : (s : Store) (n k i from r : ℕ) → session_of s n ≡ refused r → calls.store_plan s n k i from ≡ refused r
unfolding calls.store_plan calls.record_of calls.operands_of
session-first s n k i from r e = rw e

-- a rule that answers no more than that it is done
done_again : {A : Type 0} (s : Store) (m : Tested A) (f : A → Store) → settle s (m >>= (λ q. done (f q)) >>= λ o. done o.store) ≡ settle s (m >>= λ q. done (f q))
done_again s (refused r) f = refl
done_again s (passed q) f = refl

pub one_link : OneLink
unfolding OneLink store_links is_count calls.store
one_link s n k x xs = by_session (session_of s n) refl
  where
    by_session : (t : Tested Session) → session_of s n ≡ t → apply s (StoreLinks n k 1 (x ∷ xs)) ≡ apply s (StoreRef n k x.field x.from)
    by_session (refused r) e = rw (e, session-first s n k x.field x.from r e)
    by_session (passed y) e = rw e (done_again s (calls.store_plan s n k x.field x.from) _)
