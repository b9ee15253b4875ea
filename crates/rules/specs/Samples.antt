-- Small stores, and looks at what calls leave of them: what the rows of Limits.antt are made of.
use Rattle.std.specs.Prelude.{ℕ, true, false, List, [], ◌∷◌, ◌++◌, map, get_or, take, replicate}
use Rattle.rules.specs.Refusals.{refusal_of}
use Rattle.rules.specs.Memory.{Memory, with_frontier, null, followed}
use Rattle.rules.specs.Cycle.{at_heap_mark}
use Rattle.rules.specs.Control.{Lengths, Store, with_memory, with_list, with_globals, nobody, new_store}
use Rattle.rules.specs.Phases.{with_session, with_registers, attached_at}
use Rattle.rules.specs.Runs.{Call, Allocate, StoreRef, Step, apply, after}
use Rattle.rules.specs.Script.{script_share}
use Rattle.rules.specs.Examples.{small, reply_number, reply_value}
use Rattle.rules.specs.declared.Session.{Session}

-- the refusal number of a call, and the value that it answers
unfoldable pub number : Store → Call → ℕ
number s c = reply_number (apply s c).reply

unfoldable pub value : Store → Call → ℕ
value s c = reply_value (apply s c).reply

-- the refusal number of a collector step of each store
abbrev pub stepped : List Store → List ℕ
stepped = map (λ s. number s Step)

-- the refusal number of a call that follows v, where both halves begin with these words and have this frontier
unfoldable pub following : List ℕ → ℕ → ℕ → ℕ
following ws f v = refusal_of (followed (record { half0 = ws; half1 = ws; frontier0 = f; frontier1 = f }) v)

-- the three lengths
abbrev pub three_lengths : Lengths → List ℕ
three_lengths n = n.half0 ∷ n.half1 ∷ n.list ∷ []

-- level, share and registers of a session
abbrev pub session_words : Session → List ℕ
session_words x = x.level ∷ x.share ∷ x.registers

-- a number at each level, and in each phase
abbrev pub by_level : (ℕ → ℕ) → List ℕ
by_level f = map f (0 ∷ 1 ∷ 2 ∷ 3 ∷ 4 ∷ 5 ∷ 6 ∷ [])

abbrev pub by_phase : (ℕ → ℕ) → List ℕ
by_phase f = map f (0 ∷ 1 ∷ 2 ∷ 3 ∷ 4 ∷ 5 ∷ 6 ∷ 7 ∷ 8 ∷ 9 ∷ 10 ∷ 11 ∷ 12 ∷ [])

-- a store made with a, b and c words, to which x, y and z are lent
unfoldable pub lending : ℕ → ℕ → ℕ → ℕ → ℕ → ℕ → Store
lending a b c x y z = new_store (record { half0 = a; half1 = b; list = c }) (replicate x 0) (replicate y 0) (replicate z 0)

-- a store in phase p, its walk at place k
unfoldable pub walking : Store → ℕ → ℕ → Store
walking s k p =
    record {
      lengths = s.lengths;
      memory = s.memory;
      current = s.current;
      phase = p;
      walk = record { place = k; field = 0 };
      list = s.list;
      births = s.births;
      globals = s.globals;
      sessions = s.sessions;
    }

-- an empty store in phase p at the end of its walk, with session 0 marked, and attached at level l
unfoldable pub waiting : ℕ → ℕ → Store
waiting l p = walking (with_session (lending 40 40 10 40 40 10) 0 (attached_at nobody 0 l true)) 32 p

-- the small store with frontier f of half h
unfoldable pub reaching : ℕ → ℕ → Store
reaching h f = with_memory small (with_frontier small.memory h f)

-- a store whose session 0 is attached at level l, with these registers and the share of a script
unfoldable pub levelled : Store → List ℕ → ℕ → Store
levelled s vs l = with_session s 0 (with_registers (attached_at nobody script_share l false) vs)

-- the small store with session 0 attached so, its registers null
unfoldable pub opened : ℕ → Store
opened = levelled small (replicate 8 null)

-- it after an allocation of five words
unfoldable pub grown : ℕ → Store
grown l = after (opened l) (Allocate 0 0 1 0 ∷ [])

-- three white records: 2, whose one reference field names 12, then 12 and 20
abbrev pub whites : Memory
whites =
    record {
      half0 = 256 ∷ 0 ∷ 0 ∷ 1 ∷ 12 ∷ 0 ∷ 0 ∷ 0 ∷ 2 ∷ 0 ∷ 0 ∷ 0 ∷ 3 ∷ replicate 3 0;
      half1 = replicate 16 0;
      frontier0 = 13;
      frontier1 = 0;
    }

-- the small store with them in registers 0 to 2 of session 0; global 0 names 12 too
unfoldable pub three : ℕ → Store
three = levelled (with_globals (with_memory small whites) (12 ∷ replicate 31 null)) (2 ∷ 12 ∷ 20 ∷ replicate 5 null)

-- it with j entries in its list of four
unfoldable pub listing : ℕ → ℕ → Store
listing l j = with_list (three l) (replicate 4 null) j j

-- the listed records after a call
unfoldable pub listed : Store → Call → List ℕ
listed s c = let t = (apply s c).store in take t.list.tail t.list.words

-- it after some calls in phase 4, with 2 listed
unfoldable pub scanning : List Call → Store
scanning cs = after (walking (with_list (three 2) (2 ∷ replicate 3 null) 0 1) 0 at_heap_mark) cs

-- walk field, and place and end of the list
abbrev pub progress : Store → List ℕ
progress s = s.walk.field ∷ s.list.head ∷ s.list.tail ∷ []

-- the records 2 and 14 with their replicas 3 and 15, and 22 without one. 2 has a reference field, which names 22, and a plain field; 22 has a
-- reference field
abbrev pub pairs : Memory
pairs =
    record {
      half0 = 257 ∷ 2 ∷ 3 ∷ 1 ∷ 22 ∷ 0 ∷ 0 ∷ 2 ∷ 15 ∷ 2 ∷ 256 ∷ 2 ∷ 0 ∷ 3 ∷ 0 ∷ 0 ∷ [];
      half1 = 257 ∷ 0 ∷ 2 ∷ 1 ∷ 22 ∷ 0 ∷ 0 ∷ 0 ∷ 14 ∷ 2 ∷ replicate 6 0;
      frontier0 = 15;
      frontier1 = 10;
    }

-- session 0 at level l with both copies of each in registers 0 to 3, null in 4, 22 in 5, and in 6 a reference that names nothing
unfoldable pub paired : ℕ → Store
paired = levelled (with_memory small pairs) (2 ∷ 3 ∷ 14 ∷ 15 ∷ null ∷ 22 ∷ 1 ∷ null ∷ [])

-- word k of both halves after a call at level l there
unfoldable pub copies : ℕ → Call → ℕ → List ℕ
copies k c l = let M = (apply (paired l) c).store.memory in get_or M.half0 k 0 ∷ get_or M.half1 k 0 ∷ []

-- what the fields of 2 and 3 hold after a store of 14, of 15 and of null into the one in register k
unfoldable pub table : ℕ → ℕ → List ℕ
table k l = copies 4 (StoreRef 0 k 0 2) l ++ copies 4 (StoreRef 0 k 0 3) l ++ copies 4 (StoreRef 0 k 0 4) l
