-- How an allocation ends: refused by the first of its tests that fails, or with its words charged.
use Prim.Native.Nat.{ℕ, ◌+◌, ◌≤◌}
use mathlib.Core.Path.{◌≡◌, refl, sym, ap, ◌∙◌}
use mathlib.Core.Logic.{◌≢◌}
use mathlib.Core.Bool.{Bool, true, false, true≢false}
use native.Mathlib.Omega.{arith}
use lib.Dec.{leb}
use lib.ListN.{set, length, length-set}
use lib.Seq.{get_or-set_same}
use borrow.Author.Tests.{leb-true, le-leb}
use Rattle.rules.specs.Refusals.{Tested, refused, passed, check, ◌>>=◌, ◌>>◌, answer, Outcome, settle, done}
use Rattle.rules.specs.Memory.{most_count, size_of}
use Rattle.rules.specs.Control.{Store, with_memory, with_births, in_range, session_count, last_session, last_register}
use Rattle.rules.specs.Phases.{absent, session_at, with_session}
use Rattle.rules.specs.Barriers.{allocation_room, next_birth, allocated, allocated_reference}
use Rattle.rules.specs.Calls.{session_of, is_register, is_shape, within_share, number_left, with_register, charged, allocate}
use Rattle.rules.specs.Claims.{MayAllocate}
use Rattle.rules.specs.declared.Session.{Session}
use Rattle.rules.specs.Answers.{Refused, Done}
use Rattle.rules.proofs.Ranges.{both, in_session}
use Rattle.rules.proofs.relation.Replies.{unrefused, refusal-number}

module _ (s : Store) (n k r p : ℕ) where
  abbrev x : Session
  x = session_at s n

  -- the store with the record, its register set
  abbrev held : Store
  held = with_register (with_births (with_memory s (allocated s x.level r p)) (next_birth s)) n k (allocated_reference s x.level)

  -- by the first of its tests that fails
  pub data Allocating : Tested (Outcome Store) → Type 0 where
    before_17 : (m : ℕ) → m ≤ 10 → Allocating (refused m)
    past_share : MayAllocate s n k r p → within_share x r p ≡ false → Allocating (refused 17)
    no_room : MayAllocate s n k r p → within_share x r p ≡ true → allocation_room s x.level r p ≡ false → Allocating (refused 14)
    no_number : MayAllocate s n k r p → within_share x r p ≡ true → allocation_room s x.level r p ≡ true → number_left s.births ≡ false
        → Allocating (refused 16)
    all_pass : MayAllocate s n k r p → Allocating (done (charged held n (size_of r p)))

  by_session : (a b c : Bool) → in_range s ≡ a → leb n last_session ≡ b → x.attached ≡ c → (go : Session → Tested (Outcome Store))
      → (session_of s n ≡ passed x → Allocating (go x)) → Allocating ((check a 4 >> (check b 5 >> (check c 6 >> passed x))) >>= go)
  unfolding session_of
  by_session false b c i j l go h = before_17 4 (omega arith)
  by_session true false c i j l go h = before_17 5 (omega arith)
  by_session true true false i j l go h = before_17 6 (omega arith)
  by_session true true true i j l go h = h (rw (i, j, l))

  by_tests : (d e f g i : Bool) → (d ≡ true → e ≡ true → MayAllocate s n k r p) → within_share x r p ≡ f → allocation_room s x.level r p ≡ g → number_left s.births ≡ i
      → Allocating (check d 8 >> (check e 10 >> (check f 17 >> (check g 14 >> (check i 16 >> done (charged held n (size_of r p)))))))
  by_tests false e f g i may u v w = before_17 8 (omega arith)
  by_tests true false f g i may u v w = before_17 10 (omega arith)
  by_tests true true false g i may u v w = past_share (may refl refl) u
  by_tests true true true false i may u v w = no_room (may refl refl) u v
  by_tests true true true true false may u v w = no_number (may refl refl) u v w
  by_tests true true true true true may u v w = all_pass (may refl refl)

  may_allocate : session_of s n ≡ passed x → is_register k ≡ true → is_shape r p ≡ true → MayAllocate s n k r p
  may_allocate e i j =
      let z = both (leb r most_count) (leb p most_count) j in
      record { session = e; register = leb-true k last_register i; counts = (leb-true r most_count z.0, leb-true p most_count z.1) }

  pub allocating : Allocating (allocate s n k r p)
  unfolding allocate session_of
  allocating = by_session (in_range s) (leb n last_session) x.attached refl refl refl _
      (λ e. by_tests (is_register k) (is_shape r p) (within_share x r p) (allocation_room s x.level r p) (number_left s.births) (may_allocate e) refl refl refl)

  -- the tests before 17 pass on both sides
  pub reply_behind : MayAllocate s n k r p → settle s (allocate s n k r p)
      ≡ settle s (check (within_share x r p) 17 >> (check (allocation_room s x.level r p) 14 >> (check (number_left s.births) 16 >> done (charged held n (size_of r p)))))
  unfolding allocate
  reply_behind m = rw (m.session, le-leb k last_register m.register, le-leb r most_count m.counts.0, le-leb p most_count m.counts.1)

  -- where those within their share have room, none meets 14
  pub never_14 : (n ≤ last_session → within_share x r p ≡ true → allocation_room s x.level r p ≡ true) → (settle s (allocate s n k r p)).reply ≢ answer (Refused 14)
  never_14 room = pick allocating
    where
      pick : {t : Tested (Outcome Store)} → Allocating t → (settle s t).reply ≢ answer (Refused 14)
      pick (before_17 m d) = refusal-number m 14 (omega arith)
      pick (past_share b u) = refusal-number 17 14 (omega arith)
      pick (no_room b u v) = absurd (true≢false (sym (room (in_session s n b.session).number u) ∙ v))
      pick (no_number b u v w) = refusal-number 16 14 (omega arith)
      pick (all_pass b) = unrefused (answer Done) 14 refl

  charge_there : length s.sessions ≡ session_count → n ≤ last_session → (session_at (charged held n (size_of r p)) n).charge ≡ x.charge + size_of r p
  unfolding charged with_register with_session session_at
  charge_there sixteen l =
      let y = get_or-set_same s.sessions n _ absent (omega arith) in
      ap (λ z. z.charge) (get_or-set_same (set s.sessions n _) n _ absent (rw (length-set s.sessions n _) (omega arith)))
      ∙ ap (λ z. z.charge + size_of r p) y

  pub charge_grows : length s.sessions ≡ session_count → (settle s (allocate s n k r p)).reply ≡ answer Done
      → (session_at (settle s (allocate s n k r p)).store n).charge ≡ (session_at s n).charge + size_of r p
  charge_grows sixteen = pick allocating
    where
      pick : {t : Tested (Outcome Store)} → Allocating t → (settle s t).reply ≡ answer Done → (session_at (settle s t).store n).charge ≡ x.charge + size_of r p
      pick (before_17 m d) e = absurd (unrefused (answer Done) m refl (sym e))
      pick (past_share b u) e = absurd (unrefused (answer Done) 17 refl (sym e))
      pick (no_room b u v) e = absurd (unrefused (answer Done) 14 refl (sym e))
      pick (no_number b u v w) e = absurd (unrefused (answer Done) 16 refl (sym e))
      pick (all_pass b) e = charge_there sixteen (in_session s n b.session).number
