-- The starred examples, and runs computed by the checker: the script example of document 01, a whole collection, a record allocated
-- during one, the last birth number, shares and charges, several links, and two runs in which marking takes as long as it can.
use Prim.Native.Nat.{ℕ, zero, suc, ◌+◌}
use mathlib.Core.Path.{◌≡◌, refl}
use mathlib.Core.List.{List, [], ◌∷◌, ◌++◌, map}
use lib.ListN.{replicate, take, drop}
use Rattle.rules.specs.Refusals.{Reply}
use Rattle.rules.specs.Memory.{half, frontier, with_half, with_frontier, reference, half_of, word_of, in_half, shape_word, refs_of, plains_of, new_record, word, put, colour, replica, birth_number, refs, plains, size, append, next_reference, sound, points_back, followable, followed, copy_of, other_copy, forward}
use Rattle.rules.specs.Control.{session_count, global_count, half_allowed, list_allowed, lengths_allowed, same_lengths, walk_limit, in_range, making, with_births, Store}
use Rattle.rules.specs.Cycle.{at_rest, at_allocate, at_reclaim}
use Rattle.rules.specs.Phases.{level_of, next_phase, other_half, fromspace, tospace, session_at, with_session, register, with_charge, unmarked, uncharged, without_charges, move_on}
use Rattle.rules.specs.Barriers.{to_shade, list_room, shading, shade, listing, shading_all, shades_at, shades_old_at, copies_at, barrier_shades, shade_both, replica_for, own_word, replica_word, store_writes, put_writes, put_both, pointer_eq, same_at, room_in, allocation_room, placed, allocated, allocated_reference}
use Rattle.rules.specs.Calls as calls
use Rattle.rules.specs.Collector as collector
use Rattle.rules.specs.Runs.{Call, Attach, Detach, SafePoint, Allocate, Load, StoreRef, StoreLinks, Read, Write, Clear, SameAs, Birth, Step, run, after, spent}
use Rattle.rules.specs.Script.{script_share}
use Rattle.rules.specs.Examples.{making_of, small, reply_number, reply_value, numbers, values, starred}
use Rattle.rules.specs.Claims.{Starred}
use Rattle.rules.specs.declared.Link.{Link}

-- opens every definition that a closed run computes with
unfoldable pub rules : Unit {0}
unfolding small numbers values half_allowed list_allowed lengths_allowed same_lengths walk_limit in_range half frontier with_half with_frontier reference half_of word_of in_half shape_word refs_of plains_of new_record word put colour replica birth_number refs plains size append next_reference sound points_back followable followed copy_of other_copy forward level_of next_phase other_half fromspace tospace session_at with_session register unmarked without_charges uncharged move_on to_shade list_room shading shade listing shading_all shades_at shades_old_at copies_at barrier_shades shade_both replica_for own_word replica_word store_writes put_writes put_both room_in allocation_room placed allocated allocated_reference calls.session_of calls.operands_of calls.record_of calls.with_register calls.attach calls.detach calls.safe_point calls.within_share calls.number_left calls.charged calls.allocate calls.load_plan calls.load calls.store_plan calls.store_commit calls.store calls.is_count calls.store_links calls.read calls.birth calls.write_plan calls.write_commit calls.write calls.move calls.clear calls.same calls.get calls.put_plan calls.put_commit calls.put calls.stretch collector.walked collector.below collector.past_record collector.have_level collector.rest collector.handshake collector.root_mark collector.scan_record collector.scan_session collector.heap_mark collector.needs_shell collector.shell_of collector.with_shell collector.allocate_shells collector.copy_ref collector.copy_plain collector.copy_field collector.copy collector.root_flip collector.stack_flip collector.reclaim collector.step making making_of pointer_eq same_at
rules = tt

pub starred_hold : Starred
unfolding Starred starred rules
starred_hold = refl

-- ---- the script example of document 01, in halves of 16 words
script : List Call
script = Attach 0 script_share ∷ Allocate 0 0 1 1 ∷ Write 0 0 0 7 ∷ Step ∷ SafePoint 0 ∷ Read 0 0 0 ∷ []

script_numbers : numbers script ≡ replicate 6 0
unfolding rules script
script_numbers = refl

script_values : values script ≡ 0 ∷ 0 ∷ 0 ∷ 1 ∷ 0 ∷ 7 ∷ []
unfolding rules script
script_values = refl

-- ---- a whole collection: a record of 6 words that names one of 5, and a third of 5 that nothing names
before : List Call
before =
    Attach 0 script_share ∷ Allocate 0 0 1 1 ∷ Allocate 0 1 0 1 ∷ Write 0 1 0 42 ∷ StoreRef 0 0 0 1 ∷ Allocate 0 2 0 1 ∷ Clear 0 1
    ∷ Clear 0 2 ∷ []

-- n steps, each after a safe point
steps : ℕ → List Call
steps zero = []
steps (suc n) = SafePoint 0 ∷ Step ∷ steps n

-- phase and used words of both halves
seen : Store → List ℕ
seen s = s.phase ∷ s.memory.frontier0 ∷ s.memory.frontier1 ∷ []

begun : seen (after small before) ≡ at_rest ∷ 16 ∷ 0 ∷ []
unfolding rules before seen
begun = refl

-- 92 steps later the collector has one step to go: both halves are full
last : seen (after small (before ++ steps 92)) ≡ at_reclaim ∷ 16 ∷ 11 ∷ []
unfolding rules before steps seen
last = refl

-- what nothing named is gone, and the rest is still there
collected : seen (after small (before ++ steps 93)) ≡ at_rest ∷ 0 ∷ 11 ∷ []
unfolding rules before steps seen
collected = refl

reading : drop 194 (values (before ++ steps 93 ++ (Load 0 1 0 0 ∷ Read 0 1 0 ∷ []))) ≡ 0 ∷ 42 ∷ []
unfolding rules before steps
reading = refl

-- each still has its birth number, and the next record gets the next one, not that of the record that is gone
births : drop 194 (values (before ++ steps 93 ++ (Birth 0 0 ∷ Load 0 1 0 0 ∷ Birth 0 1 ∷ Allocate 0 2 0 0 ∷ Birth 0 2 ∷ []))) ≡ 1 ∷ 0 ∷ 2 ∷ 0 ∷ 4 ∷ []
unfolding rules before steps
births = refl

-- ---- a record allocated while the collection runs, in both halves: the copy that is left has its birth number too
during : List Call
during = Attach 0 script_share ∷ steps 38 ++ (SafePoint 0 ∷ Allocate 0 0 0 1 ∷ []) ++ steps 45

both_halves : seen (after small (Attach 0 script_share ∷ steps 38 ++ (SafePoint 0 ∷ Allocate 0 0 0 1 ∷ []))) ≡ at_allocate ∷ 5 ∷ 5 ∷ []
unfolding rules steps seen
both_halves = refl

moved : seen (after small during) ≡ at_rest ∷ 0 ∷ 5 ∷ []
unfolding rules during steps seen
moved = refl

copy-birth : drop 169 (values (during ++ (Birth 0 0 ∷ []))) ≡ 1 ∷ []
unfolding rules during steps
copy-birth = refl

-- ---- the last birth number is given, then 16 comes; where there is no room either, 14
spent_numbers : List Reply
spent_numbers = run (with_births small 4294967294) (Attach 0 script_share ∷ Allocate 0 0 4 4 ∷ Birth 0 0 ∷ Allocate 0 1 0 0 ∷ Allocate 0 1 1 0 ∷ [])

last_number : map reply_value spent_numbers ≡ 0 ∷ 0 ∷ 4294967295 ∷ 0 ∷ 0 ∷ []
unfolding rules spent_numbers
last_number = refl

no_number : map reply_number spent_numbers ≡ 0 ∷ 0 ∷ 0 ∷ 16 ∷ 14 ∷ []
unfolding rules spent_numbers
no_number = refl

-- ---- shares and charges of sessions 0 and 1
charges : Store → List ℕ
charges s = map (λ x. x.charge) (take 2 s.sessions)

-- a share of 8: two records of 4 words fit, a third doesn't, nor after detach and attach. A share of 0: none fits, and one that finds no
-- room is refused for its share first, one of 256 fields for its shape
shared : List Call
shared =
    Attach 0 8 ∷ Allocate 0 0 0 0 ∷ Allocate 0 1 0 0 ∷ Allocate 0 2 0 0 ∷ Detach 0 ∷ Attach 0 8 ∷ Allocate 0 0 0 0
    ∷ Attach 1 0 ∷ Allocate 1 0 0 0 ∷ Allocate 1 0 255 0 ∷ Allocate 1 0 256 0 ∷ []

past_share : numbers shared ≡ 0 ∷ 0 ∷ 0 ∷ 17 ∷ 0 ∷ 0 ∷ 17 ∷ 0 ∷ 17 ∷ 17 ∷ 10 ∷ []
unfolding rules shared
past_share = refl

still-charged : charges (after small shared) ≡ 8 ∷ 0 ∷ []
unfolding rules shared charges
still-charged = refl

-- the whole collection above: charged for 6, 5 and 5 words up to its last step, and for nothing after it
charged-all : charges (after small (before ++ steps 92)) ≡ 16 ∷ 0 ∷ []
unfolding rules before steps charges
charged-all = refl

charged_none : charges (after small (before ++ steps 93)) ≡ 0 ∷ 0 ∷ []
unfolding rules before steps charges
charged_none = refl

-- a record written to both halves is charged once
charged-once : charges (after small (Attach 0 script_share ∷ steps 38 ++ (SafePoint 0 ∷ Allocate 0 0 0 1 ∷ []))) ≡ 5 ∷ 0 ∷ []
unfolding rules steps charges
charged-once = refl

-- a charge of 2³² - 6 is kept by attach; six words more would pass every share, five come up to the greatest
nearly : Store
nearly = with_session small 0 (with_charge (session_at small 0) 4294967290)

no_wrap : map reply_number (run nearly (Attach 0 4294967295 ∷ Allocate 0 0 1 1 ∷ Allocate 0 0 1 0 ∷ Allocate 0 0 0 0 ∷ [])) ≡ 0 ∷ 17 ∷ 0 ∷ 17 ∷ []
unfolding rules nearly
no_wrap = refl

-- ---- several links: a record of two reference fields in register 0, another record in register 1, the other registers null
linked : List Call
linked = Attach 0 script_share ∷ Allocate 0 0 2 0 ∷ Allocate 0 1 0 1 ∷ []

link : ℕ → ℕ → Link
link i from = record { field = i; from = from }

-- nine links; none, of a record in register 99; field 2 for the second link; register 9 for the second; nothing stored by any of them
refused_links : List Call
refused_links =
    StoreLinks 0 0 9 [] ∷ StoreLinks 0 99 0 [] ∷ StoreLinks 0 0 3 (link 0 1 ∷ link 2 1 ∷ link 0 9 ∷ [])
    ∷ StoreLinks 0 0 3 (link 0 1 ∷ link 0 9 ∷ link 2 1 ∷ []) ∷ Load 0 2 0 0 ∷ SameAs 0 2 7 ∷ []

links_refused : numbers (linked ++ refused_links) ≡ replicate 3 0 ++ (10 ∷ 0 ∷ 13 ∷ 8 ∷ 0 ∷ 0 ∷ [])
unfolding rules linked link refused_links
links_refused = refl

links_left : values (linked ++ refused_links) ≡ replicate 8 0 ++ (1 ∷ [])
unfolding rules linked link refused_links
links_left = refl

-- a repeated field: the last link stays
repeated : List Call
repeated =
    StoreLinks 0 0 2 (link 0 1 ∷ link 0 7 ∷ []) ∷ Load 0 2 0 0 ∷ SameAs 0 2 7 ∷ StoreLinks 0 0 2 (link 0 7 ∷ link 0 1 ∷ [])
    ∷ Load 0 2 0 0 ∷ SameAs 0 2 1 ∷ []

links_repeated : values (linked ++ repeated) ≡ replicate 5 0 ++ (1 ∷ 0 ∷ 0 ∷ 1 ∷ [])
unfolding rules linked link repeated
links_repeated = refl

-- ---- the bound on marking: 17 are a scan of each of sixteen sessions and the step that moves on

-- a call of each session below n
everyone : (ℕ → Call) → ℕ → List Call
everyone c zero = []
everyone c (suc n) = c n ∷ everyone c n

-- sixteen sessions attach and make the calls cs; then up to the last step that begins in phase 4, of which there are n
marked : List Call → ℕ → List Call
marked cs n =
    everyone (λ n. Attach n script_share) session_count ++ cs ++ (Step ∷ everyone SafePoint session_count) ++ (Step ∷ everyone SafePoint session_count)
    ++ (Step ∷ replicate (global_count + 1) Step) ++ replicate n Step

-- the steps that began in phase 4, the used words of the current half, and the phase
bounded : List Call → List ℕ
bounded cs = spent 0 small cs ∷ (after small cs).memory.frontier0 ∷ (after small cs).phase ∷ []

-- without a record the bound is reached
seventeen : bounded (marked [] 17) ≡ 17 ∷ 0 ∷ at_allocate ∷ []
unfolding rules everyone marked bounded
seventeen = refl

-- a record of four words takes one step
eighteen : bounded (marked (Allocate 0 0 0 0 ∷ []) 18) ≡ 18 ∷ 4 ∷ at_allocate ∷ []
unfolding rules everyone marked bounded
eighteen = refl
