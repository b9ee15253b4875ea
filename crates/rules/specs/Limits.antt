-- Limits: the numbers and orders that documents 01 and 02 name of the store, as one table. Each row has what the rules give and what the papers
-- say. Of a limit it has the last value that passes and the first that doesn't, by the refusal number of a call, which is 0 where it is done.
use Rattle.std.specs.Prelude.{false, cond, List, [], ◌∷◌, ◌++◌, map, get_or, take, length, replicate}
use Rattle.rules.specs.Refusals.{refusal_of}
use Rattle.rules.specs.Memory.{with_frontier, null, reference, refs, white, grey, black}
use Rattle.rules.specs.Cycle.{at_root_mark, at_heap_mark, at_allocate, at_reclaim, phase_count, last_phase}
use Rattle.rules.specs.Control.{with_memory, with_walk, with_list, with_current, with_births, nobody, make}
use Rattle.rules.specs.Phases.{fromspace, tospace, register, session_at, with_session, with_registers, with_level, attached_at}
use Rattle.rules.specs.Barriers.{shades_at, shades_old_at, copies_at, replica_for}
use Rattle.rules.specs.Collector.{copy_ref, copy_plain}
use Rattle.rules.specs.Runs.{Attach, Detach, SafePoint, Allocate, Load, StoreRef, StoreLinks, Read, Write, Move, Clear, SameAs, Get, Put, Companion, Birth, Step, after}
use Rattle.rules.specs.Script.{kind_of, call_of, decimal}
use Rattle.rules.specs.Examples.{Example, making_of, small, values}
use Rattle.rules.specs.Samples.{number, value, stepped, following, three_lengths, lending, walking, reaching, waiting, session_words, opened, grown, three, listing, listed, scanning, progress, pairs, paired, copies, table, by_level, by_phase}

-- ---- the rows, by document 01's headings

-- Memory and references: making
unfoldable pub making_rows : List Example
making_rows =
    -- "equally long, 16 to 1,048,576 words"; "1 either half's length out of range; 2 halves unequal"
    record { given = making_of 16 16 4 ∷ making_of 15 15 4 ∷ making_of 15 16 4 ∷ making_of 16 15 4 ∷ []; expected = 0 ∷ 1 ∷ 1 ∷ 1 ∷ [] }
    ∷ record {
      given = making_of 1048576 1048576 262144 ∷ making_of 1048577 1048577 262144 ∷ making_of 1048577 16 262144 ∷ making_of 16 1048577 262144 ∷ [];
      expected = 0 ∷ 1 ∷ 1 ∷ 1 ∷ [];
    }
    -- request [6]: "list length (one word per four of a half)"; "3 list too short"
    ∷ record { given = making_of 19 19 4 ∷ making_of 19 19 3 ∷ making_of 20 20 5 ∷ making_of 20 20 4 ∷ []; expected = 0 ∷ 3 ∷ 0 ∷ 3 ∷ [] }
    ∷ record { given = making_of 1048576 1048576 262144 ∷ making_of 1048576 1048576 262143 ∷ []; expected = 0 ∷ 3 ∷ [] }
    -- 1 before 2 before 3
    ∷ record { given = making_of 15 17 0 ∷ making_of 17 15 0 ∷ making_of 15 15 0 ∷ making_of 16 17 0 ∷ making_of 17 16 0 ∷ []; expected = 1 ∷ 1 ∷ 1 ∷ 2 ∷ 2 ∷ [] }
    -- "every number 0 .., the three lengths apart; a refused making hands back one with every number 0"
    ∷ record { given = three_lengths (make (replicate 16 0) (replicate 16 0) (replicate 5 0)).store.lengths; expected = 16 ∷ 16 ∷ 5 ∷ [] }
    ∷ record { given = three_lengths (make (replicate 16 0) (replicate 16 0) (replicate 3 0)).store.lengths; expected = replicate 3 0 }
    ∷ record {
      given =
          small.current ∷ small.phase ∷ small.walk.place ∷ small.walk.field ∷ small.list.head ∷ small.list.tail ∷ small.births
          ∷ small.memory.frontier0 ∷ small.memory.frontier1 ∷ [];
      expected = replicate 9 0;
    }
    -- request [7]: "A share starts at 0", and so do level, registers and charge
    ∷ record { given = nobody.charge ∷ session_words nobody; expected = replicate 11 0 }
    ∷ []

-- Memory and references: references and records
unfoldable pub record_rows : List Example
record_rows =
    -- "Reference 0 is null. Word k of half h has reference 2 × k + 2 + h"
    record { given = null ∷ reference 0 0 ∷ reference 1 0 ∷ reference 0 5 ∷ reference 1 5 ∷ []; expected = 0 ∷ 2 ∷ 3 ∷ 12 ∷ 13 ∷ [] }
    -- "Reference 1 names nothing": references 0 to 4, with a record in the first four words of both halves
    ∷ record { given = map (following (0 ∷ 0 ∷ 0 ∷ 1 ∷ []) 4) (0 ∷ 1 ∷ 2 ∷ 3 ∷ 4 ∷ []); expected = 12 ∷ 12 ∷ 0 ∷ 0 ∷ 12 ∷ [] }
    -- "word 0 is at most 65,535", of a record of 514 words
    ∷ record { given = following (65535 ∷ []) 514 2 ∷ following (65536 ∷ []) 514 2 ∷ []; expected = 0 ∷ 12 ∷ [] }
    -- "the colour at most 2"
    ∷ record { given = following (0 ∷ 2 ∷ []) 4 2 ∷ following (0 ∷ 3 ∷ []) 4 2 ∷ []; expected = 0 ∷ 12 ∷ [] }
    -- "the whole record lies below the frontier"
    ∷ record { given = following (0 ∷ []) 4 2 ∷ following (0 ∷ []) 3 2 ∷ following (65535 ∷ []) 513 2 ∷ []; expected = 0 ∷ 12 ∷ 12 ∷ [] }
    -- "the colour (0 white, 1 grey, 2 black)"
    ∷ record { given = white ∷ grey ∷ black ∷ []; expected = 0 ∷ 1 ∷ 2 ∷ [] }
    -- "r reference fields and p plain fields, each 0 to 255": no room for them, or 10
    ∷ record {
      given = map (number (opened 0)) (Allocate 0 0 255 0 ∷ Allocate 0 0 256 0 ∷ Allocate 0 0 0 255 ∷ Allocate 0 0 0 256 ∷ []);
      expected = 14 ∷ 10 ∷ 14 ∷ 10 ∷ [];
    }
    -- "word 0 is 256 × r + p; word 1 the colour ..; word 2 the reference of its replica in the other half, or 0"; request [6]: "A fourth header word
    -- holds its birth number": the first record, of two reference fields and three plain ones
    ∷ record { given = take 9 (after (opened 0) (Allocate 0 0 2 3 ∷ [])).memory.half0; expected = 515 ∷ 0 ∷ 0 ∷ 1 ∷ replicate 5 0 }
    -- "Reference fields follow, then plain ones": of 2, which names 22, and 9 written
    ∷ record { given = take 6 (after (paired 0) (Write 0 0 0 9 ∷ [])).memory.half0; expected = 257 ∷ 2 ∷ 3 ∷ 1 ∷ 22 ∷ 9 ∷ [] }
    ∷ []

-- Memory and references: the control record and its ranges
unfoldable pub control_rows : List Example
control_rows =
    -- "32 global references", "16 sessions, each with eight registers"
    record { given = length small.globals ∷ length small.sessions ∷ map (λ x. length x.registers) small.sessions; expected = 32 ∷ 16 ∷ replicate 16 8 }
    -- "4 lent lengths differ from those at making", each of the three
    ∷ record { given = stepped (lending 16 16 4 16 16 4 ∷ lending 16 16 4 17 16 4 ∷ lending 16 16 4 16 17 4 ∷ lending 16 16 4 16 16 5 ∷ []); expected = 0 ∷ 4 ∷ 4 ∷ 4 ∷ [] }
    -- "lengths as making allows"
    ∷ record { given = stepped (lending 15 15 4 15 15 4 ∷ lending 16 17 4 16 17 4 ∷ lending 16 16 3 16 16 3 ∷ []); expected = replicate 3 4 }
    -- "current half 0 or 1"
    ∷ record { given = stepped (with_current small 1 ∷ with_current small 2 ∷ []); expected = 0 ∷ 4 ∷ [] }
    -- "frontiers at most the half length"
    ∷ record { given = stepped (reaching 0 16 ∷ reaching 0 17 ∷ reaching 1 16 ∷ reaching 1 17 ∷ []); expected = 0 ∷ 4 ∷ 0 ∷ 4 ∷ [] }
    -- "phase one of the store's phases"
    ∷ record { given = stepped (walking small 0 12 ∷ walking small 0 13 ∷ []); expected = 0 ∷ 4 ∷ [] }
    -- "level at most 6", of a session that isn't attached too
    ∷ record { given = stepped (map (λ l. with_session small 15 (with_level nobody l)) (6 ∷ 7 ∷ [])); expected = 0 ∷ 4 ∷ [] }
    -- "walk place at most the half length, in phases 3 and 10 at most 32": places 16 and 17 in halves of 16 words, 32 and 33 in halves of 40
    ∷ record { given = by_phase (λ p. number (walking small 16 p) Step); expected = replicate 13 0 }
    ∷ record { given = by_phase (λ p. number (walking small 17 p) Step); expected = 4 ∷ 4 ∷ 4 ∷ 0 ∷ 4 ∷ 4 ∷ 4 ∷ 4 ∷ 4 ∷ 4 ∷ 0 ∷ 4 ∷ 4 ∷ [] }
    ∷ record { given = by_phase (λ p. number (walking (lending 40 40 10 40 40 10) 32 p) Step); expected = replicate 13 0 }
    ∷ record {
      given = by_phase (λ p. number (walking (lending 40 40 10 40 40 10) 33 p) Step);
      expected = 0 ∷ 0 ∷ 0 ∷ 4 ∷ 0 ∷ 0 ∷ 0 ∷ 0 ∷ 0 ∷ 0 ∷ 4 ∷ 0 ∷ 0 ∷ [];
    }
    -- "walk field at most 510"
    ∷ record { given = stepped (with_walk small 0 510 ∷ with_walk small 0 511 ∷ []); expected = 0 ∷ 4 ∷ [] }
    -- "the list's place at most its end, the end at most its length"
    ∷ record { given = stepped (map (λ i. with_list small (replicate 4 0) i 3) (3 ∷ 4 ∷ [])); expected = 0 ∷ 4 ∷ [] }
    ∷ record { given = stepped (map (λ j. with_list small (replicate 4 0) 3 j) (4 ∷ 5 ∷ [])); expected = 0 ∷ 4 ∷ [] }
    ∷ []

-- Session calls, and Refusal by place
unfoldable pub call_rows : List Example
call_rows =
    -- "5 number above 15; 6 not attached (all but attach); 7 attached already (attach)"
    record { given = map (number small) (Attach 15 0 ∷ Attach 16 0 ∷ Detach 15 ∷ Detach 16 ∷ []); expected = 0 ∷ 5 ∷ 6 ∷ 5 ∷ [] }
    ∷ record { given = map (number (opened 0)) (Detach 0 ∷ Attach 0 0 ∷ []); expected = 0 ∷ 7 ∷ [] }
    -- "8 register above 7; 9 global above 31", then every call's registers and globals
    ∷ record { given = map (number (opened 0)) (Clear 0 7 ∷ Clear 0 8 ∷ Get 0 0 31 ∷ Get 0 0 32 ∷ Put 0 31 0 ∷ Put 0 32 0 ∷ []); expected = 0 ∷ 8 ∷ 0 ∷ 9 ∷ 0 ∷ 9 ∷ [] }
    ∷ record {
      given =
          map (number (opened 0))
          (Allocate 0 8 0 0 ∷ Load 0 8 0 0 ∷ Load 0 0 8 0 ∷ StoreRef 0 8 0 0 ∷ StoreRef 0 0 0 8 ∷ Read 0 8 0 ∷ Write 0 8 0 0 ∷ Move 0 8 0
          ∷ Move 0 0 8 ∷ SameAs 0 8 0 ∷ SameAs 0 0 8 ∷ Get 0 8 0 ∷ Put 0 0 8 ∷ Companion 0 8 ∷ Birth 0 8 ∷ []);
      expected = replicate 15 8;
    }
    -- "13 field number not below the count"
    ∷ record {
      given = map (number (paired 0)) (Load 0 0 0 0 ∷ Load 0 0 0 1 ∷ StoreRef 0 0 1 0 ∷ Read 0 0 0 ∷ Read 0 0 1 ∷ Write 0 0 1 0 ∷ []);
      expected = 0 ∷ 13 ∷ 13 ∷ 0 ∷ 13 ∷ 13 ∷ [];
    }
    -- "14 a half that this allocation writes lacks" room, by request [6] for 4 + r + p words: 16 words fit, 17 don't
    ∷ record { given = map (number (opened 0)) (Allocate 0 0 12 0 ∷ Allocate 0 0 13 0 ∷ []); expected = 0 ∷ 14 ∷ [] }
    -- request [6]: "once 4,294,967,295 numbers are used"
    ∷ record { given = map (λ n. number (with_births (opened 0) n) (Allocate 0 0 0 0)) (4294967294 ∷ 4294967295 ∷ []); expected = 0 ∷ 16 ∷ [] }
    -- request [7]: "refuses an allocation that would pass the share"
    ∷ record { given = map (λ n. number (after small (Attach 0 n ∷ [])) (Allocate 0 0 0 0)) (4 ∷ 3 ∷ []); expected = 0 ∷ 17 ∷ [] }
    -- request [8]: "up to eight links", "A count above eight is refused with 10"
    ∷ record {
      given = map (λ n. number (three 0) (StoreLinks 0 0 n (replicate n (record { field = 0; from = 2 })))) (8 ∷ 9 ∷ []);
      expected = 0 ∷ 10 ∷ [];
    }
    -- "detach (registers null, level 0)"; request [7]: "A share .. stays until its number's next attach"
    ∷ record { given = session_words (session_at (after (paired 3) (Detach 0 ∷ [])) 0); expected = 0 ∷ 4294967295 ∷ replicate 8 0 }
    -- "Place, in order": 4 before 5, 6 before 8; 8 before 9 and before 10 (and, above, before 11)
    ∷ record { given = map (number (with_walk small 0 511)) (Attach 16 0 ∷ Detach 16 ∷ []) ++ map (number small) (Clear 0 8 ∷ []); expected = 4 ∷ 4 ∷ 6 ∷ [] }
    ∷ record { given = map (number (opened 0)) (Get 0 8 32 ∷ Put 0 32 8 ∷ Allocate 0 8 256 0 ∷ []); expected = replicate 3 8 }
    -- 11 and 12 before 13, and 13 before 12 for "other followed references"
    ∷ record {
      given = map (number (paired 1)) (Load 0 0 4 9 ∷ Read 0 4 9 ∷ Load 0 0 6 9 ∷ Read 0 6 9 ∷ StoreRef 0 0 9 6 ∷ StoreRef 0 0 0 6 ∷ []);
      expected = 11 ∷ 11 ∷ 12 ∷ 12 ∷ 13 ∷ 12 ∷ [];
    }
    ∷ record { given = map (number (paired 1)) (Birth 0 4 ∷ Birth 0 6 ∷ Companion 0 4 ∷ Companion 0 6 ∷ []); expected = 11 ∷ 12 ∷ 11 ∷ 12 ∷ [] }
    -- 10 before 17, before 14, before 16
    ∷ record {
      given = map (number (with_births (after small (Attach 0 17 ∷ [])) 4294967295)) (Allocate 0 0 256 0 ∷ Allocate 0 0 14 0 ∷ Allocate 0 0 13 0 ∷ Allocate 0 0 12 0 ∷ []);
      expected = 10 ∷ 17 ∷ 14 ∷ 16 ∷ [];
    }
    ∷ []

-- Phases and levels: the phases
unfoldable pub phase_rows : List Example
phase_rows =
    -- thirteen phases; "Number, name, level", as attach and safe point take it
    record { given = phase_count ∷ last_phase ∷ []; expected = 13 ∷ 12 ∷ [] }
    ∷ record {
      given = by_phase (λ p. (session_at (after (walking small 0 p) (Attach 0 0 ∷ [])) 0).level);
      expected = 0 ∷ 1 ∷ 2 ∷ 2 ∷ 2 ∷ 3 ∷ 4 ∷ 4 ∷ 5 ∷ 6 ∷ 6 ∷ 6 ∷ 0 ∷ [];
    }
    ∷ record {
      given = by_phase (λ p. (session_at (after (walking (opened 6) 0 p) (SafePoint 0 ∷ [])) 0).level);
      expected = 0 ∷ 1 ∷ 2 ∷ 2 ∷ 2 ∷ 3 ∷ 4 ∷ 4 ∷ 5 ∷ 6 ∷ 6 ∷ 6 ∷ 0 ∷ [];
    }
    -- "attach (.. unscanned)"; request [3]: "a session attached in phase 4 counts as scanned"
    ∷ record {
      given = by_phase (λ p. cond (session_at (after (walking small 0 p) (Attach 0 0 ∷ [])) 0).scanned 1 0);
      expected = 0 ∷ 0 ∷ 0 ∷ 0 ∷ 1 ∷ replicate 8 0;
    }
    -- "Phases 1, 2, 6, 8, 9: the step moves on if every attached session has the level, else it changes nothing"; so do 5 and 12 at the frontier. The
    -- phase after a step, with a session at level 3, and at level 0
    ∷ record { given = by_phase (λ p. value (waiting 3 p) Step); expected = 1 ∷ 1 ∷ 2 ∷ 4 ∷ 5 ∷ 6 ∷ 6 ∷ 8 ∷ 8 ∷ 9 ∷ 11 ∷ 12 ∷ 12 ∷ [] }
    ∷ record { given = by_phase (λ p. value (waiting 0 p) Step); expected = 1 ∷ 1 ∷ 2 ∷ 4 ∷ 5 ∷ 5 ∷ 6 ∷ 8 ∷ 8 ∷ 9 ∷ 11 ∷ 12 ∷ 0 ∷ [] }
    -- "An empty store without sessions: 77 steps from phase 0 back to 0"
    ∷ record {
      given = values (replicate 77 Step);
      expected = 1 ∷ 2 ∷ replicate 33 3 ++ (4 ∷ 5 ∷ 6 ∷ 7 ∷ 8 ∷ 9 ∷ replicate 33 10) ++ (11 ∷ 12 ∷ 0 ∷ []);
    }
    -- "Fromspace is the current half and tospace the other until phase 12; in phase 12 tospace is the current half"
    ∷ record { given = by_phase (λ p. fromspace (walking small 0 p)); expected = replicate 12 0 ++ (1 ∷ []) }
    ∷ record { given = by_phase (λ p. tospace (walking small 0 p)); expected = replicate 12 1 ++ (0 ∷ []) }
    -- "shade the registers of the lowest unscanned attached session in register order": session 1 has 20 alone
    ∷ record {
      given = listed (walking (with_session (three 2) 1 (with_registers (attached_at nobody 0 2 false) (20 ∷ []))) 0 at_heap_mark) Step;
      expected = 2 ∷ 12 ∷ 20 ∷ [];
    }
    -- "shade its next reference field, or, none left, colour it black": walk field, list place and end at first, after a step, and after two
    ∷ record { given = progress (scanning []) ++ progress (scanning (Step ∷ [])) ++ progress (scanning (Step ∷ Step ∷ [])); expected = 0 ∷ 0 ∷ 1 ∷ 1 ∷ 0 ∷ 2 ∷ 0 ∷ 1 ∷ 2 ∷ [] }
    -- "12 .. a shell or list entry doesn't fit": three entries in a list of four, then one and none, and a shell of five words in a half of 16
    ∷ record { given = stepped (walking (listing 2 1) 0 at_heap_mark ∷ walking (listing 2 2) 0 at_heap_mark ∷ []); expected = 0 ∷ 12 ∷ [] }
    ∷ record {
      given = stepped (walking (listing 2 3) 0 at_root_mark ∷ walking (listing 2 4) 0 at_root_mark ∷ walking (listing 2 4) 1 at_root_mark ∷ []);
      expected = 0 ∷ 12 ∷ 0 ∷ [];
    }
    ∷ record {
      given = stepped (map (λ f. walking (with_memory small (with_frontier (grown 2).memory 1 f)) 0 at_allocate) (11 ∷ 12 ∷ []));
      expected = 0 ∷ 12 ∷ [];
    }
    ∷ []

-- Phases and levels: stores, puts and same by level
unfoldable pub barrier_rows : List Example
barrier_rows =
    -- the levels that shade the stored record, those that shade the overwritten one, and those that write to the replica
    record { given = by_level (λ l. cond (shades_at l) 1 0); expected = 0 ∷ 1 ∷ 1 ∷ 1 ∷ 0 ∷ 0 ∷ 0 ∷ [] }
    ∷ record { given = by_level (λ l. cond (shades_old_at l) 1 0); expected = 0 ∷ 0 ∷ 1 ∷ 1 ∷ 0 ∷ 0 ∷ 0 ∷ [] }
    ∷ record { given = by_level (λ l. cond (copies_at l) 1 0); expected = 0 ∷ 0 ∷ 0 ∷ 0 ∷ 1 ∷ 1 ∷ 1 ∷ [] }
    -- "1 to 3 first shade the stored record"; request [3]: "Stores and puts at levels 2 and 3 now also shade the reference they overwrite, before the
    -- stored one": the first listed record and the second, of a store and of a put of 20 over 12
    ∷ record { given = by_level (λ l. get_or (listed (three l) (StoreRef 0 0 0 2)) 0 null); expected = 0 ∷ 20 ∷ 12 ∷ 12 ∷ 0 ∷ 0 ∷ 0 ∷ [] }
    ∷ record { given = by_level (λ l. get_or (listed (three l) (StoreRef 0 0 0 2)) 1 null); expected = 0 ∷ 0 ∷ 20 ∷ 20 ∷ 0 ∷ 0 ∷ 0 ∷ [] }
    ∷ record { given = by_level (λ l. get_or (listed (three l) (Put 0 0 2)) 0 null); expected = 0 ∷ 20 ∷ 12 ∷ 12 ∷ 0 ∷ 0 ∷ 0 ∷ [] }
    ∷ record { given = by_level (λ l. get_or (listed (three l) (Put 0 0 2)) 1 null); expected = 0 ∷ 0 ∷ 20 ∷ 20 ∷ 0 ∷ 0 ∷ 0 ∷ [] }
    -- "a .. list entry doesn't fit": with two entries, three and four in the list of four
    ∷ record { given = by_level (λ l. number (listing l 2) (StoreRef 0 0 0 2)); expected = replicate 7 0 }
    ∷ record { given = by_level (λ l. number (listing l 3) (StoreRef 0 0 0 2)); expected = 0 ∷ 0 ∷ 12 ∷ 12 ∷ 0 ∷ 0 ∷ 0 ∷ [] }
    ∷ record { given = by_level (λ l. number (listing l 4) (StoreRef 0 0 0 2)); expected = 0 ∷ 12 ∷ 12 ∷ 12 ∷ 0 ∷ 0 ∷ 0 ∷ [] }
    -- "0 writes the word", and so do 1 to 3: the copy keeps 22
    ∷ record { given = table 0 0; expected = 14 ∷ 22 ∷ 15 ∷ 22 ∷ 0 ∷ 22 ∷ [] }
    ∷ record { given = table 0 3; expected = 14 ∷ 22 ∷ 15 ∷ 22 ∷ 0 ∷ 22 ∷ [] }
    -- "4 also writes the forwarded value into the replica"
    ∷ record { given = table 0 4; expected = 14 ∷ 15 ∷ 15 ∷ 15 ∷ 0 ∷ 0 ∷ [] }
    -- "5 follows Table 1(a)", of a record in fromspace and in tospace; "a null is written to both copies"
    ∷ record { given = table 0 5; expected = 14 ∷ 15 ∷ 15 ∷ 15 ∷ 0 ∷ 0 ∷ [] }
    ∷ record { given = table 1 5; expected = 14 ∷ 15 ∷ 14 ∷ 15 ∷ 0 ∷ 0 ∷ [] }
    -- "6 Table 1(b)"
    ∷ record { given = table 0 6; expected = 15 ∷ 15 ∷ 15 ∷ 15 ∷ 0 ∷ 0 ∷ [] }
    ∷ record { given = table 1 6; expected = 15 ∷ 15 ∷ 15 ∷ 15 ∷ 0 ∷ 0 ∷ [] }
    -- 2 is the first reference of half 0, and 1, which names nothing, is in no half
    ∷ record { given = copies 4 (StoreRef 0 0 0 0) 5 ++ copies 4 (StoreRef 0 1 0 6) 5; expected = 2 ∷ 3 ∷ 1 ∷ 1 ∷ [] }
    -- "Where a table wants the other copy's reference of a record without replica, its own is written": 22
    ∷ record { given = copies 4 (StoreRef 0 0 0 5) 5 ++ copies 4 (StoreRef 0 1 0 5) 5; expected = replicate 4 22 }
    -- "a replica without that field is damage too", in a store or write and in Copy: fields 0 and 1 of 2
    ∷ record { given = map (λ i. refusal_of (replica_for pairs refs 4 2 i)) (0 ∷ 1 ∷ []); expected = 0 ∷ 12 ∷ [] }
    ∷ record { given = map (λ i. refusal_of (copy_ref (paired 4) 2 3 i)) (0 ∷ 1 ∷ []); expected = 0 ∷ 12 ∷ [] }
    ∷ record { given = map (λ i. refusal_of (copy_plain (paired 4) 2 3 i)) (0 ∷ 1 ∷ []); expected = 0 ∷ 12 ∷ [] }
    -- "a missing replica isn't written": 14 into 22
    ∷ record { given = by_level (λ l. get_or (copies 14 (StoreRef 0 5 0 2) l) 0 0); expected = 14 ∷ 14 ∷ 14 ∷ 14 ∷ 14 ∷ 14 ∷ 15 ∷ [] }
    ∷ record { given = by_level (λ l. get_or (copies 14 (StoreRef 0 5 0 2) l) 1 0); expected = replicate 7 0 }
    -- "Globals are Table 1's Non": 14
    ∷ record { given = by_level (λ l. get_or (after (paired l) (Put 0 0 2 ∷ [])).globals 0 0); expected = 14 ∷ 14 ∷ 14 ∷ 14 ∷ 14 ∷ 14 ∷ 15 ∷ [] }
    -- "plain writes at 4 to 6 go to both"
    ∷ record { given = by_level (λ l. get_or (copies 5 (Write 0 0 0 9) l) 0 0); expected = replicate 7 9 }
    ∷ record { given = by_level (λ l. get_or (copies 5 (Write 0 0 0 9) l) 1 0); expected = 0 ∷ 0 ∷ 0 ∷ 0 ∷ 9 ∷ 9 ∷ 9 ∷ [] }
    -- "Same compares words at 0 to 4, and by Algorithm 9(a) at 5 and 6": 14 and 15
    ∷ record { given = by_level (λ l. value (paired l) (SameAs 0 2 3)); expected = 0 ∷ 0 ∷ 0 ∷ 0 ∷ 0 ∷ 1 ∷ 1 ∷ [] }
    ∷ []

-- Phases and levels: allocation by level
unfoldable pub allocation_rows : List Example
allocation_rows =
    -- "Levels 0 and 1: white, current half. 2: black, current half .. 3 to 6: both halves, fromspace copy black, tospace copy white"
    record { given = by_level (λ l. (grown l).memory.frontier0); expected = replicate 7 5 }
    ∷ record { given = by_level (λ l. (grown l).memory.frontier1); expected = 0 ∷ 0 ∷ 0 ∷ 5 ∷ 5 ∷ 5 ∷ 5 ∷ [] }
    ∷ record { given = by_level (λ l. get_or (grown l).memory.half0 1 0); expected = 0 ∷ 0 ∷ 2 ∷ 2 ∷ 2 ∷ 2 ∷ 2 ∷ [] }
    ∷ record { given = by_level (λ l. get_or (grown l).memory.half1 1 0); expected = replicate 7 0 }
    -- "replica word 0 in all three", "replica words set"
    ∷ record { given = by_level (λ l. get_or (grown l).memory.half0 2 0); expected = 0 ∷ 0 ∷ 0 ∷ 3 ∷ 3 ∷ 3 ∷ 3 ∷ [] }
    ∷ record { given = by_level (λ l. get_or (grown l).memory.half1 2 0); expected = 0 ∷ 0 ∷ 0 ∷ 2 ∷ 2 ∷ 2 ∷ 2 ∷ [] }
    -- "3 to 5 give the fromspace reference, 6 the tospace one"
    ∷ record { given = by_level (λ l. register (session_at (grown l) 0) 0); expected = 2 ∷ 2 ∷ 2 ∷ 2 ∷ 2 ∷ 2 ∷ 3 ∷ [] }
    -- the same in phase 12, where tospace is the current half
    ∷ record {
      given = by_level (λ l. register (session_at (after (walking (opened l) 0 at_reclaim) (Allocate 0 0 1 0 ∷ [])) 0) 0);
      expected = 2 ∷ 2 ∷ 2 ∷ 3 ∷ 3 ∷ 3 ∷ 2 ∷ [];
    }
    -- "14 a half that this allocation writes": with the other half full, and with the current one
    ∷ record {
      given = by_level (λ l. number (with_memory (opened l) (with_frontier small.memory 1 16)) (Allocate 0 0 0 0));
      expected = 0 ∷ 0 ∷ 0 ∷ 14 ∷ 14 ∷ 14 ∷ 14 ∷ [];
    }
    ∷ record { given = by_level (λ l. number (with_memory (opened l) (with_frontier small.memory 0 16)) (Allocate 0 0 0 0)); expected = replicate 7 14 }
    ∷ []

-- The script program
unfoldable pub script_rows : List Example
script_rows =
    -- the kinds 1 to 14: the bytes after the length byte
    record {
      given = map (λ k. (kind_of [] k).size) (1 ∷ 2 ∷ 3 ∷ 4 ∷ 5 ∷ 6 ∷ 7 ∷ 8 ∷ 9 ∷ 10 ∷ 11 ∷ 12 ∷ 13 ∷ 14 ∷ []);
      expected = 2 ∷ 2 ∷ 2 ∷ 5 ∷ 5 ∷ 5 ∷ 4 ∷ 8 ∷ 4 ∷ 3 ∷ 4 ∷ 4 ∷ 4 ∷ 1 ∷ [];
    }
    -- "15 bad .. entry length, kind": kinds 0, 1, 14 and 15, and an attach with a byte more and one less
    ∷ record {
      given = map (λ b. refusal_of (call_of b)) ((0 ∷ []) ∷ (1 ∷ 0 ∷ []) ∷ (14 ∷ []) ∷ (15 ∷ []) ∷ (1 ∷ 0 ∷ 0 ∷ []) ∷ (1 ∷ []) ∷ []);
      expected = 15 ∷ 0 ∷ 0 ∷ 15 ∷ 15 ∷ 15 ∷ [];
    }
    -- numbers in decimal: 0, 9, 10 and 109
    ∷ record { given = decimal 0 ++ decimal 9 ++ decimal 10 ++ decimal 109; expected = 48 ∷ 57 ∷ 49 ∷ 48 ∷ 49 ∷ 48 ∷ 57 ∷ [] }
    -- request [7], of a share: "in a script it is 4,294,967,295"
    ∷ record { given = (session_at (after small ((kind_of (1 ∷ 0 ∷ []) 1).call ∷ [])) 0).share ∷ []; expected = 4294967295 ∷ [] }
    ∷ []

unfoldable pub limits : List Example
limits = making_rows ++ record_rows ++ control_rows ++ call_rows ++ phase_rows ++ barrier_rows ++ allocation_rows ++ script_rows
