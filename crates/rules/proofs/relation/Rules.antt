-- How every rule ends: refused with a number that its call may be refused with, or with a store in which lengths, marks, shares and charges
-- stay, but for the share of an attach and the charge of an allocation, and an answer that is no refusal.
use Prim.Native.Nat.{ℕ}
use mathlib.Core.Path.{◌≡◌, refl, ◌∙◌}
use mathlib.Core.Bool.{false, not}
use mathlib.Core.List.{List, [], ◌∷◌}
use lib.Dec.{leb}
use lib.ListN.{get_or, take}
use native.Mathlib.Nat.{le_refl}
use native.Mathlib.Omega.{arith}
use borrow.Author.Tests.{eq-eqb}
use Rattle.rules.specs.Refusals.{Tested, check, ◌>>◌, answer, is_refusal, Outcome, settle, done, done_or}
use Rattle.rules.specs.Cycle.{at_heap_mark, at_reclaim}
use Rattle.rules.specs.Control.{Store, in_range, last_session}
use Rattle.rules.specs.Phases.{session_at, with_session, move_on}
use Rattle.rules.specs.Calls as calls
use Rattle.rules.specs.Collector as collector
use Rattle.rules.specs.Runs.{Call, Attach, Detach, SafePoint, Allocate, Load, StoreRef, StoreLinks, Read, Write, Move, Clear, SameAs, Get, Put, Stretch, Companion, Birth, Step, apply, is_allocation}
use Rattle.rules.specs.declared.Session.{Session}
use Rattle.rules.specs.declared.Link.{Link}
use Rattle.rules.specs.Answers.{Refused}
use Rattle.rules.proofs.relation.Units.{each_unit}
use Rattle.rules.proofs.relation.Rows.{Ends, refuses, passes, then_row, after_row, map_row, row, one_test, Allowed, allowed, Row, followed_row, forward_row, shading_row, shading_all_row, replica_row, store_writes_row, put_writes_row, same_at_row, forward_all_row, of_session, record_row}
use Rattle.rules.proofs.relation.Stays.{NoAttach, NoAllocation, Stays, Kept, held, shade_both_held, unwritten, uncharged_stays, stays}

-- what the rule of the call c of s leaves where all its tests pass
pub record Passed (c : Call) (s : Store) (o : Outcome Store) : Type 0 where
  pub stays : Stays c s o.store
  pub reply : is_refusal o.reply ≡ false

leaves : {c : Call} {s : Store} (o : Outcome Store) → Stays c s o.store → is_refusal o.reply ≡ false → Passed c s o
leaves o h e = record { stays = h; reply = e }

-- what it leaves where it writes nothing that `Stays` speaks of
record Unheld (s : Store) (o : Outcome Store) : Type 0 where
  same : held o.store ≡ held s
  reply : is_refusal o.reply ≡ false

leaves_held : {s : Store} (o : Outcome Store) → held o.store ≡ held s → is_refusal o.reply ≡ false → Unheld s o
leaves_held o h e = record { same = h; reply = e }

held_passed : {c : Call} {s : Store} (o : Outcome Store) → Unheld s o → Passed c s o
held_passed o h = leaves o (unwritten h.same) h.reply

-- the rule of a call, and that of a phase
abbrev pub RuleEnds : Call → Store → Tested (Outcome Store) → Type 0
RuleEnds c s t = Ends (Allowed (is_allocation c)) (Passed c s) t

abbrev UnitEnds : Store → Tested Store → Type 0
UnitEnds s t = Ends (Allowed false) (Stays Step s) t

ruleset rule = (row, passes, leaves, stays)

-- ---- the session calls

module _ (s : Store) where
  -- in HeapMark the new session has a mark; its charge stays
  pub attach_ends : (n share : ℕ) → RuleEnds (Attach n share) s (calls.attach s n share)
  unfolding calls.attach
  attach_ends n share = keeps_charge _
      (record { mark = λ e m. eq-eqb s.phase _ (omega arith); share = λ a. absurd (a share refl); charge = λ a. refl; rise = le_refl _ })
    where
      keeps_charge : (x : Session) → Kept (s.phase ≡ at_heap_mark) (NoAttach (Attach n share) n) (NoAllocation (Attach n share) n) (session_at s n) x
          → RuleEnds (Attach n share) s
          (check (in_range s) 4 >> (check (leb n last_session) 5 >> (check (not (session_at s n).attached) 7 >> done (with_session s n x))))
      keeps_charge x h = search rule depth 7

  pub detach_ends : (n : ℕ) → RuleEnds (Detach n) s (calls.detach s n)
  unfolding calls.detach
  detach_ends n = search (rule, of_session)

  pub safe_point_ends : (n : ℕ) → RuleEnds (SafePoint n) s (calls.safe_point s n)
  unfolding calls.safe_point
  safe_point_ends n = search (rule, of_session)

  pub load_ends : (n to k i : ℕ) → RuleEnds (Load n to k i) s (calls.load s n to k i)
  unfolding calls.load calls.load_plan
  load_ends n to k i = search (rule, record_row)

  stored_ends : (n k i from : ℕ) → Ends (Allowed false) (Unheld s) (calls.store s n k i from)
  unfolding calls.store calls.store_plan calls.store_commit
  stored_ends n k i from = search (row, passes, leaves_held, record_row, store_writes_row, shade_both_held)

  pub store_ends : (n k i from : ℕ) → RuleEnds (StoreRef n k i from) s (calls.store s n k i from)
  store_ends n k i from = map_row held_passed (stored_ends n k i from)

  pub read_ends : (n k i : ℕ) → RuleEnds (Read n k i) s (calls.read s n k i)
  unfolding calls.read
  read_ends n k i = search (rule, record_row)

  pub birth_ends : (n k : ℕ) → RuleEnds (Birth n k) s (calls.birth s n k)
  unfolding calls.birth
  birth_ends n k = search (rule, record_row)

  pub write_ends : (n k i a : ℕ) → RuleEnds (Write n k i a) s (calls.write s n k i a)
  unfolding calls.write calls.write_plan calls.write_commit
  write_ends n k i a = search (rule, record_row, replica_row)

  pub move_ends : (n to from : ℕ) → RuleEnds (Move n to from) s (calls.move s n to from)
  unfolding calls.move
  move_ends n to from = search (rule, of_session) depth 6

  pub clear_ends : (n k : ℕ) → RuleEnds (Clear n k) s (calls.clear s n k)
  unfolding calls.clear
  clear_ends n k = search (rule, of_session) depth 6

  pub same_ends : (n x y : ℕ) → RuleEnds (SameAs n x y) s (calls.same s n x y)
  unfolding calls.same
  same_ends n x y = search (rule, of_session, same_at_row) depth 7

  pub get_ends : (n to g : ℕ) → RuleEnds (Get n to g) s (calls.get s n to g)
  unfolding calls.get
  get_ends n to g = search (rule, of_session) depth 7

  pub put_ends : (n g from : ℕ) → RuleEnds (Put n g from) s (calls.put s n g from)
  unfolding calls.put calls.put_plan calls.put_commit
  put_ends n g from = search (rule, of_session, put_writes_row) depth 7

  stretch_row : (n k : ℕ) → Row false (calls.stretch s n k)
  unfolding calls.stretch
  stretch_row n k = search (rule, record_row)

  -- the one call that may be refused with 14, 16 and 17
  pub allocate_ends : (n k r p : ℕ) → RuleEnds (Allocate n k r p) s (calls.allocate s n k r p)
  unfolding calls.allocate
  allocate_ends n k r p = search (rule, of_session) depth 12

  -- ---- the collector step

  rest_ends : UnitEnds s (collector.rest s)
  unfolding collector.rest move_on
  rest_ends = search rule

  handshake_ends : UnitEnds s (collector.handshake s)
  unfolding collector.handshake move_on
  handshake_ends = search rule

  root_mark_ends : UnitEnds s (collector.root_mark s)
  unfolding collector.root_mark move_on
  root_mark_ends = search (rule, shading_row)

  scan_record_ends : (v : ℕ) → UnitEnds s (collector.scan_record s v)
  unfolding collector.scan_record
  scan_record_ends v = search (rule, followed_row, shading_row) depth 7

  scan_session_ends : (n : ℕ) → UnitEnds s (collector.scan_session s n)
  unfolding collector.scan_session
  scan_session_ends n = search (rule, shading_all_row)

  heap_mark_ends : UnitEnds s (collector.heap_mark s)
  unfolding collector.heap_mark move_on
  heap_mark_ends = search (rule, scan_record_ends, scan_session_ends)

  shells_ends : UnitEnds s (collector.allocate_shells s)
  unfolding collector.allocate_shells collector.past_record
  shells_ends = search (rule, handshake_ends, followed_row) depth 7

  copy_field_ends : (v i : ℕ) → UnitEnds s (collector.copy_field s v i)
  unfolding collector.copy_field collector.copy_ref collector.copy_plain
  copy_field_ends v i = search (rule, followed_row, forward_row) depth 7

  copy_ends : UnitEnds s (collector.copy s)
  unfolding collector.copy collector.past_record move_on
  copy_ends = search (rule, followed_row, copy_field_ends)

  root_flip_ends : UnitEnds s (collector.root_flip s)
  unfolding collector.root_flip move_on
  root_flip_ends = search (rule, forward_row)

  stack_flip_ends : UnitEnds s (collector.stack_flip s)
  unfolding collector.stack_flip move_on
  stack_flip_ends = search (rule, forward_all_row)

  -- in Reclaim, which its last step ends
  reclaim_ends : s.phase ≡ at_reclaim → UnitEnds s (collector.reclaim s)
  unfolding collector.reclaim collector.past_record move_on
  reclaim_ends e = search (rule, followed_row, uncharged_stays) depth 7

  unit_ends : UnitEnds s (get_or collector.units s.phase collector.handshake s)
  unit_ends =
      each_unit (UnitEnds s) s rest_ends handshake_ends root_mark_ends heap_mark_ends shells_ends copy_ends root_flip_ends stack_flip_ends s.phase reclaim_ends

  step_ends : RuleEnds Step s (collector.step s)
  unfolding collector.step
  step_ends = search (rule, then_row, unit_ends)

-- ---- several links

links_stored : (s : Store) (n k : ℕ) (xs : List Link) → Ends (Allowed false) (Unheld s) (calls.store_each s n k xs)
links_stored s n k [] = passes _ (leaves_held _ refl refl)
links_stored s n k (x ∷ xs) = then_row _ (stored_ends s n k x.field x.from)
    (λ o h. map_row (λ u g. leaves_held u (g.same ∙ h.same) g.reply) (links_stored o.store n k xs))

pub store_links_ends : (s : Store) (n k count : ℕ) (xs : List Link) → RuleEnds (StoreLinks n k count xs) s (calls.store_links s n k count xs)
unfolding calls.store_links
store_links_ends s n k count xs = of_session s n _
    (after_row _ (one_test (calls.is_count count) 10 (allowed refl refl)) (λ u. map_row held_passed (links_stored s n k (take count xs))))

-- ---- any call

-- a refused call hands the store back as it came, and any other leaves what a rule does
pub data CallEnds (c : Call) (s : Store) : Outcome Store → Type 0 where
  refusal : (n : ℕ) → Allowed (is_allocation c) n → CallEnds c s (record { store = s; reply = answer (Refused n) })
  success : (o : Outcome Store) → Passed c s o → CallEnds c s o

settled : {c : Call} {s : Store} {t : Tested (Outcome Store)} → RuleEnds c s t → CallEnds c s (settle s t)
settled (refuses n a) = refusal n a
settled (passes o h) = success o h

companion : {c : Call} {s : Store} {A : Type 0} {t : Tested A} → Row (is_allocation c) t → CallEnds c s (record { store = s; reply = answer (done_or t) })
companion (refuses n a) = refusal n a
companion (passes o h) = success _ (leaves _ (unwritten refl) refl)

pub call_ends : (s : Store) (c : Call) → CallEnds c s (apply s c)
call_ends s (Attach n share) = settled (attach_ends s n share)
call_ends s (Detach n) = settled (detach_ends s n)
call_ends s (SafePoint n) = settled (safe_point_ends s n)
call_ends s (Allocate n k r p) = settled (allocate_ends s n k r p)
call_ends s (Load n to k i) = settled (load_ends s n to k i)
call_ends s (StoreRef n k i from) = settled (store_ends s n k i from)
call_ends s (StoreLinks n k count xs) = settled (store_links_ends s n k count xs)
call_ends s (Read n k i) = settled (read_ends s n k i)
call_ends s (Write n k i a) = settled (write_ends s n k i a)
call_ends s (Move n to from) = settled (move_ends s n to from)
call_ends s (Clear n k) = settled (clear_ends s n k)
call_ends s (SameAs n a b) = settled (same_ends s n a b)
call_ends s (Get n to g) = settled (get_ends s n to g)
call_ends s (Put n g from) = settled (put_ends s n g from)
call_ends s (Stretch n k) = success _ (leaves _ (unwritten refl) refl)
call_ends s (Companion n k) = companion (stretch_row s n k)
call_ends s (Birth n k) = settled (birth_ends s n k)
call_ends s Step = settled (step_ends s)

pub call_stays : (s : Store) (c : Call) → Stays c s (apply s c).store
call_stays s c = of_call (call_ends s c)
  where
    of_call : {o : Outcome Store} → CallEnds c s o → Stays c s o.store
    of_call (refusal n a) = unwritten refl
    of_call (success o h) = h.stays
