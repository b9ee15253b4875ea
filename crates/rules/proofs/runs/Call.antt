-- One call on both stores: the invariant and the bound on marking are kept, frontiers move in known ways, session answers are equal, and no
-- call is refused with 4 or 12.
use Prim.Native.Nat.{ℕ, suc}
use mathlib.Core.Path.{◌≡◌, refl, sym, ap, ◌∙◌, fun_ext, subst}
use mathlib.Core.Logic.{◌≢◌}
use mathlib.Core.Bool.{true, false, cond, true≢false}
use mathlib.Core.List.{List}
use native.Mathlib.Nat.{le_refl}
use lib.ListN.{length}
use Rattle.rules.specs.Refusals.{Tested, refused, passed, ◌>>=◌, Reply, answer, words, Outcome, settle, done, words_or, done_or}
use Rattle.rules.specs.Memory.{Memory}
use Rattle.rules.specs.Control.{Store}
use Rattle.rules.specs.Collector.{walked, step}
use Rattle.rules.specs.Runs.{Call, Attach, Detach, SafePoint, Allocate, Load, StoreRef, StoreLinks, Read, Write, Move, Clear, SameAs, Get, Put, Stretch, Companion, Birth, Step, apply, is_session, is_allocation, is_step, fed_by, spent_by}
use Rattle.rules.specs.Free.{Free, FreeSession, free_session_of, free_apply}
use Rattle.rules.specs.Tracking.{Beside, track, beside_call}
use Rattle.rules.specs.Answers.{Refused, Done, Phase}
use Rattle.rules.proofs.invariant.Sim.{Sim}
use Rattle.rules.proofs.invariant.Room.{Fronts, still}
use Rattle.rules.proofs.invariant.Spent.{Spent}
use Rattle.rules.proofs.relation.Tracks.{tracked, Tracks, tracks_none}
use Rattle.rules.proofs.relation.Alike.{Alike, Both, refused_both, passed_both}
use Rattle.rules.proofs.relation.Rows.{of_passed}
use Rattle.rules.proofs.relation.Rules.{RuleEnds, attach_ends, detach_ends, safe_point_ends, allocate_ends, load_ends, store_ends, store_links_ends, read_ends, birth_ends, write_ends, move_ends, clear_ends, same_ends, get_ends, put_ends}
use Rattle.rules.proofs.relation.Replies.{refusal-number, unrefused}
use Rattle.rules.proofs.sessions.Registers.{move_alike, clear_alike, get_alike}
use Rattle.rules.proofs.sessions.Attaching.{attach_alike, detach_alike, safe_point_alike}
use Rattle.rules.proofs.sessions.Reading.{load_alike, read_alike, birth_alike, stretch_both}
use Rattle.rules.proofs.sessions.Same.{same_alike}
use Rattle.rules.proofs.fields.Storing.{store_alike}
use Rattle.rules.proofs.fields.Links.{store_links_alike}
use Rattle.rules.proofs.fields.Writing.{write_alike}
use Rattle.rules.proofs.fields.Putting.{put_alike}
use Rattle.rules.proofs.allocation.Allocate.{allocate_alike}
use Rattle.rules.proofs.runs.Step.{unit_stepped, step-passed}

-- the tracked place in a call's own words
by_tracks : {K : ℕ → Type 0} (q : ℕ) (m : ℕ → ℕ) {m' : ℕ → ℕ} (M : Memory) {t : Store} {f : Free} → Sim K m' t f → Tracks q m m' M t.memory
    → Sim K (tracked q m M t.memory) t f
by_tracks {K} q m M {t} {f} h e = subst (λ n. Sim K n t f) (fun_ext e) h

-- what is shown of the outcomes of the call c on both stores
pub record Settled (K : ℕ → Type 0) (q : ℕ) (m : ℕ → ℕ) (s : Store) (c : Call) (o : Outcome Store) (p : Outcome Free) : Type 0 where
  pub sim : Sim K (tracked q m s.memory o.store.memory) o.store p.store
  pub reply : o.reply ≡ p.reply
  pub not_4 : o.reply ≢ answer (Refused 4)
  pub not_12 : o.reply ≢ answer (Refused 12)
  pub spent : (n : ℕ) → Spent n s → Spent (spent_by n s c) o.store
  pub fronts : Fronts s o.store

-- no test failed, or one that is neither 4 nor 12
settled : {K : ℕ → Type 0} {q : ℕ} {m : ℕ → ℕ} {s : Store} {f : Free} → Sim K m s f → (c : Call) → is_step c ≡ false
    → {t : Tested (Outcome Store)} {u : Tested (Outcome Free)} → RuleEnds c s t → Alike K q m s t u → Settled K q m s c (settle s t) (settle f u)
settled {K} {q} {m} {s} h c e r (refused_both n a b) = record {
  sim = by_tracks q m s.memory h (tracks_none q m s.memory);
  reply = refl;
  not_4 = refusal-number n 4 a;
  not_12 = refusal-number n 12 b;
  spent = λ i k. rw e k;
  fronts = still (le_refl _) (le_refl _);
}
settled {K} {q} {m} {s} h c e r (passed_both {a = o} {b = p} w) = record {
  sim = by_tracks q m s.memory w.sim w.tracks;
  reply = w.reply;
  not_4 = unrefused o.reply 4 (of_passed r).reply;
  not_12 = unrefused o.reply 12 (of_passed r).reply;
  spent = λ i k. rw e (w.spent i k);
  fronts = w.fronts;
}

-- ---- the stretch, its companion, the safe point and the step

kept_same : {K : ℕ → Type 0} {m : ℕ → ℕ} {s : Store} {f : Free} → Sim K m s f → (c : Call) → is_step c ≡ false → (q : ℕ) {r r' : Reply} → r ≡ r'
    → r ≢ answer (Refused 4) → r ≢ answer (Refused 12)
    → Settled K q m s c (record { store = s; reply = r }) (record { store = f; reply = r' })
kept_same {K} {m} {s} h c z q e a b = record {
  sim = by_tracks q m s.memory h (tracks_none q m s.memory);
  reply = e;
  not_4 = a;
  not_12 = b;
  spent = λ i k. rw z k;
  fronts = still (le_refl _) (le_refl _);
}

companion_reply : {t u : Tested (List ℕ)} → Both (λ a b. a ≡ b) t u
    → (answer (done_or t) ≡ answer (done_or u)) × (answer (done_or t) ≢ answer (Refused 4)) × (answer (done_or t) ≢ answer (Refused 12))
companion_reply (refused_both n a b) = (refl, refusal-number n 4 a, refusal-number n 12 b)
companion_reply (passed_both e) = (refl, unrefused (answer Done) 4 refl, unrefused (answer Done) 12 refl)

stretch-reply : {t u : Tested (List ℕ)} → Both (λ a b. a ≡ b) t u → words_or t ≡ words_or u
stretch-reply (refused_both n a b) = refl
stretch-reply (passed_both e) = e

free_same : (f : Free) (t : Tested FreeSession) → (settle f (t >>= λ x. done f)).store ≡ f
free_same f (refused n) = refl
free_same f (passed x) = refl

free-reply : (f : Free) (t : Tested FreeSession) → (settle f (t >>= λ x. done f)).reply ≡ answer (done_or t)
free-reply f (refused n) = refl
free-reply f (passed x) = refl

-- ---- every call

-- what is shown of a call beside the collector-free store
pub record CallKept (K : ℕ → Type 0) (b : Beside) (c : Call) : Type 0 where
  pub sim : Sim K (beside_call b c).place (beside_call b c).store (beside_call b c).free
  pub reply : is_session c ≡ true → (apply b.store c).reply ≡ (free_apply b.free c (fed_by (apply b.store c).reply)).reply
  pub not_4 : (apply b.store c).reply ≢ answer (Refused 4)
  pub not_12 : (apply b.store c).reply ≢ answer (Refused 12)
  pub spent : (n : ℕ) → Spent n b.store → Spent (spent_by n b.store c) (beside_call b c).store
  pub fronts : Fronts b.store (beside_call b c).store

-- the place that a record written by the call gets
abbrev place_of : Beside → Call → ℕ
place_of b c = cond (is_allocation c) (suc (length b.free.records)) (b.place (walked b.store))

of_kept : {K : ℕ → Type 0} (b : Beside) (c : Call) → is_session c ≡ true
    → Settled K (place_of b c) b.place b.store c (apply b.store c) (free_apply b.free c (fed_by (apply b.store c).reply)) → CallKept K b c
unfolding track tracked
of_kept b c e k = record { sim = rw e k.sim; reply = λ z. k.reply; not_4 = k.not_4; not_12 = k.not_12; spent = k.spent; fronts = k.fronts }

module _ {K : ℕ → Type 0} (b : Beside) (h : Sim K b.place b.store b.free) where
  abbrev s : Store
  s = b.store

  pub safe_point-reply : (n : ℕ) → (apply s (SafePoint n)).reply ≡ answer (done_or (free_session_of b.free n))
  safe_point-reply n =
      let k = settled h (SafePoint n) refl (safe_point_ends s n) (safe_point_alike h n (b.place (walked s))) in
      k.reply ∙ free-reply b.free (free_session_of b.free n)

  safe_point-call : (n : ℕ) → CallKept K b (SafePoint n)
  unfolding track tracked
  safe_point-call n =
      let k = settled h (SafePoint n) refl (safe_point_ends s n) (safe_point_alike h n (b.place (walked s))) in
      record {
        sim = rw (free_same b.free (free_session_of b.free n)) at k.sim;
        reply = λ z. absurd (true≢false (sym z));
        not_4 = k.not_4;
        not_12 = k.not_12;
        spent = k.spent;
        fronts = k.fronts;
      }

  -- a step changes nothing beside
  step_kept : Settled K (b.place (walked s)) b.place s Step (settle s (step s)) (record { store = b.free; reply = answer (Phase (unit_stepped h).after.phase) })
  step_kept =
      let u = unit_stepped h in
      rw (step-passed h) (record {
        sim = by_tracks (b.place (walked s)) b.place s.memory u.sim u.tracks;
        reply = refl;
        not_4 = unrefused _ 4 refl;
        not_12 = unrefused _ 12 refl;
        spent = u.spent;
        fronts = u.fronts;
      })

  step_call : CallKept K b Step
  unfolding track tracked
  step_call = record {
    sim = step_kept.sim;
    reply = λ z. absurd (true≢false (sym z));
    not_4 = step_kept.not_4;
    not_12 = step_kept.not_12;
    spent = step_kept.spent;
    fronts = step_kept.fronts;
  }

  pub one_call : (c : Call) → CallKept K b c
  one_call (Attach n share) = of_kept b (Attach n share) refl (settled h (Attach n share) refl (attach_ends s n share) (attach_alike h n share _))
  one_call (Detach n) = of_kept b (Detach n) refl (settled h (Detach n) refl (detach_ends s n) (detach_alike h n _))
  one_call (SafePoint n) = safe_point-call n
  one_call (Allocate n k r p) = of_kept b (Allocate n k r p) refl (settled h (Allocate n k r p) refl (allocate_ends s n k r p) (allocate_alike h n k r p))
  one_call (Load n to k i) = of_kept b (Load n to k i) refl (settled h (Load n to k i) refl (load_ends s n to k i) (load_alike h n to k i _))
  one_call (StoreRef n k i from) = of_kept b (StoreRef n k i from) refl (settled h (StoreRef n k i from) refl (store_ends s n k i from) (store_alike h n k i from _))
  one_call (StoreLinks n k count xs) = of_kept b (StoreLinks n k count xs) refl
      (settled h (StoreLinks n k count xs) refl (store_links_ends s n k count xs) (store_links_alike h n k count xs _))
  one_call (Read n k i) = of_kept b (Read n k i) refl (settled h (Read n k i) refl (read_ends s n k i) (read_alike h n k i _))
  one_call (Write n k i a) = of_kept b (Write n k i a) refl (settled h (Write n k i a) refl (write_ends s n k i a) (write_alike h n k i a _))
  one_call (Move n to from) = of_kept b (Move n to from) refl (settled h (Move n to from) refl (move_ends s n to from) (move_alike h n to from _))
  one_call (Clear n k) = of_kept b (Clear n k) refl (settled h (Clear n k) refl (clear_ends s n k) (clear_alike h n k _))
  one_call (SameAs n a c) = of_kept b (SameAs n a c) refl (settled h (SameAs n a c) refl (same_ends s n a c) (same_alike h n a c _))
  one_call (Get n to g) = of_kept b (Get n to g) refl (settled h (Get n to g) refl (get_ends s n to g) (get_alike h n to g _))
  one_call (Put n g from) = of_kept b (Put n g from) refl (settled h (Put n g from) refl (put_ends s n g from) (put_alike h n g from _))
  one_call (Stretch n k) = of_kept b (Stretch n k) refl
      (kept_same h (Stretch n k) refl _ (ap words (stretch-reply (stretch_both h n k))) (unrefused _ 4 refl) (unrefused _ 12 refl))
  one_call (Companion n k) =
      let z = companion_reply (stretch_both h n k) in
      of_kept b (Companion n k) refl (kept_same h (Companion n k) refl _ z.0 z.1 z.2)
  one_call (Birth n k) = of_kept b (Birth n k) refl (settled h (Birth n k) refl (birth_ends s n k) (birth_alike h n k _))
  one_call Step = step_call
