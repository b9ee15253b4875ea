-- Of claim 10: where an allocation is refused with 17, with 14 and with 16.
use Prim.Native.Nat.{ℕ, ◌≤◌, ◌<◌}
use mathlib.Core.Path.{◌≡◌, refl, ap, ◌∙◌}
use mathlib.Core.Bool.{true, false}
use native.Mathlib.Omega.{arith}
use borrow.Author.Tests.{leb-true, leb-false, le-leb, lt-leb, ltb-false, le-ltb}
use Rattle.rules.specs.Refusals.{Tested, answer, Outcome, settle}
use Rattle.rules.specs.Control.{Store, most_births}
use Rattle.rules.specs.Phases.{session_at}
use Rattle.rules.specs.Barriers.{allocation_room}
use Rattle.rules.specs.Calls.{within_share, number_left}
use Rattle.rules.specs.Claims.{MayAllocate, charge_with, ShareRefused, RoomRefused, NumberRefused}
use Rattle.rules.specs.Answers.{Refused, Done}
use Rattle.rules.proofs.relation.Replies.{unrefused, refusal-number}
use Rattle.rules.proofs.allocation.Outcome.{Allocating, before_17, past_share, no_room, no_number, all_pass, allocating, reply_behind}

module _ (s : Store) (n k r p : ℕ) where
  abbrev share : ℕ
  share = (session_at s n).share

  -- the tests in figures
  within : within_share (session_at s n) r p ≡ true → charge_with s n r p ≤ share
  unfolding within_share
  within e = leb-true (charge_with s n r p) share e

  past : within_share (session_at s n) r p ≡ false → share < charge_with s n r p
  unfolding within_share
  past e = leb-false (charge_with s n r p) share e

  is_within : charge_with s n r p ≤ share → within_share (session_at s n) r p ≡ true
  unfolding within_share
  is_within l = le-leb (charge_with s n r p) share l

  is_past : share < charge_with s n r p → within_share (session_at s n) r p ≡ false
  unfolding within_share
  is_past l = lt-leb (charge_with s n r p) share l

  none_left : number_left s.births ≡ false → most_births ≤ s.births
  unfolding number_left
  none_left e = ltb-false s.births most_births e

  is-none_left : most_births ≤ s.births → number_left s.births ≡ false
  unfolding number_left
  is-none_left l = le-ltb s.births most_births l

pub share-refused : ShareRefused
unfolding ShareRefused
share-refused s n k r p = (λ e. pick (allocating s n k r p) e, λ w. ap (λ o. o.reply) (reply_behind s n k r p w.0) ∙ rw (is_past s n k r p w.1))
  where
    pick : {t : Tested (Outcome Store)} → Allocating s n k r p t → (settle s t).reply ≡ answer (Refused 17)
        → MayAllocate s n k r p × ((session_at s n).share < charge_with s n r p)
    pick (before_17 m d) e = absurd (refusal-number m 17 (omega arith) e)
    pick (past_share b u) e = (b, past s n k r p u)
    pick (no_room b u v) e = absurd (refusal-number 14 17 (omega arith) e)
    pick (no_number b u v w) e = absurd (refusal-number 16 17 (omega arith) e)
    pick (all_pass b) e = absurd (unrefused (answer Done) 17 refl e)

pub room-refused : RoomRefused
unfolding RoomRefused
room-refused s n k r p = (λ e. pick (allocating s n k r p) e, λ w. ap (λ o. o.reply) (reply_behind s n k r p w.0) ∙ rw (is_within s n k r p w.1, w.2))
  where
    pick : {t : Tested (Outcome Store)} → Allocating s n k r p t → (settle s t).reply ≡ answer (Refused 14)
        → MayAllocate s n k r p × (charge_with s n r p ≤ (session_at s n).share) × (allocation_room s (session_at s n).level r p ≡ false)
    pick (before_17 m d) e = absurd (refusal-number m 14 (omega arith) e)
    pick (past_share b u) e = absurd (refusal-number 17 14 (omega arith) e)
    pick (no_room b u v) e = (b, within s n k r p u, v)
    pick (no_number b u v w) e = absurd (refusal-number 16 14 (omega arith) e)
    pick (all_pass b) e = absurd (unrefused (answer Done) 14 refl e)

pub number-refused : NumberRefused
unfolding NumberRefused
number-refused s n k r p =
    (λ e. pick (allocating s n k r p) e, λ w. ap (λ o. o.reply) (reply_behind s n k r p w.0) ∙ rw (is_within s n k r p w.1, w.2, is-none_left s n k r p w.3))
  where
    pick : {t : Tested (Outcome Store)} → Allocating s n k r p t → (settle s t).reply ≡ answer (Refused 16)
        → MayAllocate s n k r p × (charge_with s n r p ≤ (session_at s n).share) × (allocation_room s (session_at s n).level r p ≡ true) × (4294967295 ≤ s.births)
    pick (before_17 m d) e = absurd (refusal-number m 16 (omega arith) e)
    pick (past_share b u) e = absurd (refusal-number 17 16 (omega arith) e)
    pick (no_room b u v) e = absurd (refusal-number 14 16 (omega arith) e)
    pick (no_number b u v w) e = (b, within s n k r p u, v, none_left s n k r p w)
    pick (all_pass b) e = absurd (unrefused (answer Done) 16 refl e)
