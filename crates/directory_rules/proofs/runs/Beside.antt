-- A store of a run, and the collector-free store beside it: what one store call of the directory's session does to both.
use Prim.Native.Nat.{ℕ}
use mathlib.Core.Path.{◌≡◌, refl, sym, ap, ◌∙◌}
use mathlib.Core.Bool.{Bool, true, false, cond, true≢false}
use mathlib.Core.List.{List, [], ◌∷◌, ◌++◌}
use lib.Dec.{eqb}
use lib.ListN.{length}
use Rattle.rules.specs.Control.{Store}
use Rattle.rules.specs.Refusals.{Tested, refused, passed, check, ◌>>=◌, ◌>>◌, Outcome, Reply, answer, settle, done, done_or}
use Rattle.rules.specs.Calls.{is_register, is_shape, number_left}
use Rattle.rules.specs.Runs.{Call, SafePoint, apply, after, is_session, is_allocation, Fed, fitted, fed_by}
use Rattle.rules.specs.Free.{Free, new_free, free_apply, free_session_of, fed_share, fed_room, free_allocate}
use Rattle.rules.specs.Tracking.{new_beside}
use Rattle.rules.specs.Claims.{Made, free_after, NextAnswer, SafePointAnswer}
use Rattle.rules.proofs.relation.Kinds.{Kind, allocation, unfed, silent, kind}
use Rattle.rules.proofs.runs.Runs.{beside-store, after_more, beside-more}
use Rattle.rules.proofs.runs.Claims.{next-answer, safe_point-answer}
use Rattle.directory_rules.specs.Acts.{own_session, Ask, attach, safe_point, allocate, load, store, read, write, move, clear, get, put, call_of, refused_by}
use Rattle.directory_rules.proofs.free.Perform.{allocate_fed, free_ask}

-- t and f are what the calls cs leave of the store s and of the collector-free store
pub record Here (s : Store) (cs : List Call) (t : Store) (f : Free) : Type 0 where
  pub store : after s cs ≡ t
  pub free : free_after s cs ≡ f

pub here_new : (s : Store) → Here s [] s new_free
here_new s = record { store = refl; free = refl }

-- ---- one call more

-- what it leaves of the collector-free store, fed as it was answered
abbrev pub free_next : Store → Free → Call → Free
free_next t f c = cond (is_session c) (free_apply f c (fed_by (apply t c).reply)).store f

free_more : (s : Store) (cs : List Call) (c : Call) → free_after s (cs ++ (c ∷ [])) ≡ free_next (after s cs) (free_after s cs) c
free_more s cs c =
    ap (λ b. b.free) (beside-more (new_beside s) cs (c ∷ [])) ∙ ap (λ t. free_next t (free_after s cs) c) (beside-store (new_beside s) cs)

module _ {s t : Store} {cs : List Call} {f : Free} (here : Here s cs t f) where
  pub here-call : (c : Call) → Here s (cs ++ (c ∷ [])) (apply t c).store (free_next t f c)
  here-call c = record {
    store = rw (after_more s cs (c ∷ []), here.store);
    free = rw (free_more s cs c, here.store, here.free);
  }

  module _ (made : Made s) where
    session-reply : (c : Call) → is_session c ≡ true → (apply t c).reply ≡ (free_apply f c (fed_by (apply t c).reply)).reply
    unfolding NextAnswer
    session-reply c session = rw (here.store, here.free) at (next-answer s made cs c session)

    pub safe_point-reply : (apply t (SafePoint own_session)).reply ≡ answer (done_or (free_session_of f own_session))
    unfolding SafePointAnswer
    safe_point-reply = rw (here.store, here.free) at (safe_point-answer s made cs own_session)

-- ---- one call of the directory's session

-- what the collector-free store is fed is as the store answered
abbrev pub FedRight : ℕ → Store → Ask → Type 0
FedRight fed t c = is_allocation (call_of c) ≡ true → fed ≡ refused_by (apply t (call_of c)).reply

pub record AskedBoth (s : Store) (cs : List Call) (t : Store) (f : Free) (fed : ℕ) (c : Ask) : Type 0 where
  pub reply : (apply t (call_of c)).reply ≡ (free_ask fed f c).reply
  pub here : Here s (cs ++ (call_of c ∷ [])) (apply t (call_of c)).store (free_ask fed f c).store

-- what isn't an allocation doesn't go by what is fed
by_kind : (f : Free) (c : Ask) (fed : Fed) → Kind (call_of c) → is_session (call_of c) ≡ true → is_allocation (call_of c) ≡ false
    → free_apply f (call_of c) fed ≡ free_apply f (call_of c) fitted
by_kind f c fed (allocation a b) session other = absurd (true≢false (sym b ∙ other))
by_kind f c fed (unfed a b any) session other = any f _ _
by_kind f c fed (silent a b) session other = absurd (true≢false (sym session ∙ a))

-- an allocation that answers r is the same where it is fed the number that r gives
last_tests : (f g : Free) (a b c : Bool) (r : Reply) → r ≡ (settle f (check a 17 >> (check b 14 >> (check c 16 >> done g)))).reply
    → settle f (check a 17 >> (check b 14 >> (check c 16 >> done g))) ≡ settle f (check (eqb (refused_by r) 0) (refused_by r) >> done g)
last_tests f g true true true r e = rw e
last_tests f g true true false r e = rw e
last_tests f g true false c r e = rw e
last_tests f g false b c r e = rw e

-- tests before them are the same on both sides
same_after : {A : Type 0} (f : Free) (x : Reply) (t : Tested A) (u v : A → Tested (Outcome Free))
    → ((a : A) → x ≡ (settle f (u a)).reply → settle f (u a) ≡ settle f (v a)) → x ≡ (settle f (t >>= u)).reply → settle f (t >>= u) ≡ settle f (t >>= v)
same_after f x (refused n) u v h e = refl
same_after f x (passed a) u v h e = h a e

fed_same : (f : Free) (k r p : ℕ) (x : Reply) → x ≡ (free_apply f (call_of (allocate k r p)) (fed_by x)).reply
    → free_apply f (call_of (allocate k r p)) (fed_by x) ≡ free_ask (refused_by x) f (allocate k r p)
unfolding free_allocate allocate_fed
fed_same f k r p x = same_after f x (free_session_of f own_session) _ _ (λ y. same_after f x (check (is_register k) 8) _ _
    (λ u. same_after f x (check (is_shape r p) 10) _ _ (λ w. last_tests f _ (fed_share (fed_by x)) (fed_room (fed_by x)) (number_left (length f.records)) x)))

module _ {s t : Store} {cs : List Call} {f : Free} (here : Here s cs t f) (made : Made s) (fed : ℕ) where
  -- by what is asked there and what that does to the collector-free store
  asked_by : (c : Ask) → is_session (call_of c) ≡ true → free_apply f (call_of c) (fed_by (apply t (call_of c)).reply) ≡ free_ask fed f c → AskedBoth s cs t f fed c
  asked_by c session e = record {
    reply = rw (← e) (session-reply here made (call_of c) session);
    here = rw (← e) (rw session at (here-call here (call_of c)));
  }

  unfed_asked : (c : Ask) → is_session (call_of c) ≡ true → is_allocation (call_of c) ≡ false → free_apply f (call_of c) fitted ≡ free_ask fed f c → AskedBoth s cs t f fed c
  unfed_asked c session other e = asked_by c session (by_kind f c _ (kind (call_of c)) session other ∙ e)

  pub asked_both : (c : Ask) → FedRight fed t c → AskedBoth s cs t f fed c
  asked_both (attach share) right = unfed_asked (attach share) refl refl refl
  asked_both safe_point right = record { reply = safe_point-reply here made; here = here-call here (SafePoint own_session) }
  asked_both (allocate k r p) right = asked_by (allocate k r p) refl (rw (right refl) (fed_same f k r p _ (session-reply here made (call_of (allocate k r p)) refl)))
  asked_both (load to k i) right = unfed_asked (load to k i) refl refl refl
  asked_both (store k i from) right = unfed_asked (store k i from) refl refl refl
  asked_both (read k i) right = unfed_asked (read k i) refl refl refl
  asked_both (write k i a) right = unfed_asked (write k i a) refl refl refl
  asked_both (move to from) right = unfed_asked (move to from) refl refl refl
  asked_both (clear k) right = unfed_asked (clear k) refl refl refl
  asked_both (get to) right = unfed_asked (get to) refl refl refl
  asked_both (put from) right = unfed_asked (put from) refl refl refl
