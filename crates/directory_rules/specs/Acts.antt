-- Store calls of session 15, each chosen by the answers to those before it.
use Rattle.std.specs.Prelude.{ℕ, zero, suc, Bool, true, false, cond, List, [], ◌∷◌, eqb}
use Rattle.rules.specs.Refusals.{Tested, refused, passed, Reply, answer, words}
use Rattle.rules.specs.Control.{Store}
use Rattle.rules.specs.Runs.{Call, Attach, SafePoint, Allocate, Load, StoreRef, Read, Write, Move, Clear, Get, Put, apply, is_allocation}
use Rattle.rules.specs.Claims.{allocation_numbers}
use Rattle.rules.specs.Answers.{Refused, Done, Word, Same, Phase}
use Rattle.directory_rules.specs.Table.{among}

-- "Session 15 and global 31 are the directory's alone"
abbrev pub own_session : ℕ
own_session = 15

abbrev pub own_global : ℕ
own_global = 31

-- a store call of that session; get and put are of that global
pub data Ask : Type 0 where
  attach : ℕ → Ask
  safe_point : Ask
  allocate : ℕ → ℕ → ℕ → Ask
  load : ℕ → ℕ → ℕ → Ask
  store : ℕ → ℕ → ℕ → Ask
  read : ℕ → ℕ → Ask
  write : ℕ → ℕ → ℕ → Ask
  move : ℕ → ℕ → Ask
  clear : ℕ → Ask
  get : ℕ → Ask
  put : ℕ → Ask

abbrev pub call_of : Ask → Call
call_of (attach share) = Attach own_session share
call_of safe_point = SafePoint own_session
call_of (allocate k r p) = Allocate own_session k r p
call_of (load to k i) = Load own_session to k i
call_of (store k i from) = StoreRef own_session k i from
call_of (read k i) = Read own_session k i
call_of (write k i a) = Write own_session k i a
call_of (move to from) = Move own_session to from
call_of (clear k) = Clear own_session k
call_of (get to) = Get own_session to own_global
call_of (put from) = Put own_session own_global from

-- an act ends with a refusal or a result, or makes a call and goes on by its reply
pub data Act (A : Type 0) : Type 0 where
  stop : ℕ → Act A
  give : A → Act A
  ask : Ask → (Reply → Act A) → Act A

infixl 10 ◌>>=◌
infixl 10 ◌>>◌
abbrev pub ◌>>=◌ : {A B : Type 0} → Act A → (A → Act B) → Act B
◌>>=◌ (stop n) k = stop n
◌>>=◌ (give a) k = k a
◌>>=◌ (ask c f) k = ask c (λ r. f r >>= k)

abbrev pub ◌>>◌ : {A B : Type 0} → Act A → Act B → Act B
◌>>◌ a b = a >>= λ x. b

-- a test: where it fails, the act ends with the number
abbrev pub demand : Bool → ℕ → Act (Unit {0})
demand true n = give tt
demand false n = stop n

-- "Store refusals pass through by number"
abbrev pub or_stop : Reply → Act (Unit {0})
or_stop (answer (Refused n)) = stop n
or_stop (answer Done) = give tt
or_stop (answer (Word w)) = give tt
or_stop (answer (Same b)) = give tt
or_stop (answer (Phase p)) = give tt
or_stop (words ws) = give tt

abbrev pub must : Ask → Act (Unit {0})
must c = ask c or_stop

-- what a read on a walk finds: the end of the chain, a refusal, or the record's word
pub data Found : Type 0 where
  ended : Found
  failed : ℕ → Found
  word : ℕ → Found

-- the store's number for a null register, which ends a chain
abbrev pub at_null : ℕ
at_null = 11

abbrev pub found_in : Reply → Found
found_in (answer (Refused n)) = cond (eqb n at_null) ended (failed n)
found_in (answer Done) = word 0
found_in (answer (Word w)) = word w
found_in (answer (Same b)) = word 0
found_in (answer (Phase p)) = word 0
found_in (words ws) = word 0

-- registers k and on, n of them, cleared before the act
abbrev pub clearing : {A : Type 0} → ℕ → ℕ → Act A → Act A
clearing zero k a = a
clearing (suc n) k a = ask (clear k) (λ r. clearing n (suc k) a)

-- an act, and then the first n registers cleared, whether it was refused or not
abbrev pub ending : {A : Type 0} → ℕ → Act A → Act A
ending n (stop m) = clearing n 0 (stop m)
ending n (give a) = clearing n 0 (give a)
ending n (ask c f) = ask c (λ r. ending n (f r))

-- ---- on a store

-- the store that an act leaves, and its refusal or result
pub record Performed (S A : Type 0) : Type 0 where
  pub store : S
  pub result : Tested A

abbrev pub perform : {A : Type 0} → Store → Act A → Performed Store A
perform s (stop n) = record { store = s; result = refused n }
perform s (give a) = record { store = s; result = passed a }
perform s (ask c f) = perform (apply s (call_of c)).store (f (apply s (call_of c)).reply)

-- the store calls that it makes there
abbrev pub calls_made : {A : Type 0} → Store → Act A → List Call
calls_made s (stop n) = []
calls_made s (give a) = []
calls_made s (ask c f) = call_of c ∷ calls_made (apply s (call_of c)).store (f (apply s (call_of c)).reply)

-- ---- refused allocations

-- the number by which an allocation was refused as only an allocation is (no room, no birth number left, past the share), or 0
abbrev pub refused_by : Reply → ℕ
refused_by (answer (Refused n)) = cond (among n allocation_numbers) n 0
refused_by (answer Done) = 0
refused_by (answer (Word w)) = 0
refused_by (answer (Same b)) = 0
refused_by (answer (Phase p)) = 0
refused_by (words ws) = 0

-- the same of the first allocation of an act, or 0 where it makes none
abbrev pub allocation_number : {A : Type 0} → Store → Act A → ℕ
allocation_number s (stop n) = 0
allocation_number s (give a) = 0
allocation_number s (ask c f) =
    cond (is_allocation (call_of c)) (refused_by (apply s (call_of c)).reply) (allocation_number (apply s (call_of c)).store (f (apply s (call_of c)).reply))
