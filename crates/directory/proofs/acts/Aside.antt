-- Register 0 alone: stores that differ in it, and the load of a group's first link, which doesn't look at it.
use Prim.Native.Nat.{ℕ, zero, suc}
use mathlib.Core.Path.{◌≡◌, refl, sym, ap, ◌∙◌}
use mathlib.Core.Bool.{Bool, true, false, not, ◌&&◌}
use mathlib.Core.List.{List, [], ◌∷◌}
use lib.Dec.{eqb, leb, ltb}
use lib.ListN.{length, get_or, set}
use lib.Seq.{set-set, set_out, get_or-set_same, get_or-set_other}
use native.Mathlib.Omega.{arith}
use Rattle.rules.specs.Refusals.{Tested, refused, passed, check, ◌>>=◌, ◌>>◌, answer, settle, done}
use Rattle.rules.specs.Memory.{Memory, null, refs, word, ref_field, followed}
use Rattle.rules.specs.Control.{Store, in_range, levels_in_range, last_level}
use Rattle.rules.specs.Phases.{session_at, with_session, with_registers, register, absent}
use Rattle.rules.specs.Calls as calls
use Rattle.rules.specs.Calls.{session_of, operands_of, record_of, with_register, load_plan}
use Rattle.rules.specs.Runs.{apply, Load}
use Rattle.rules.specs.declared.Session.{Session}
use Rattle.rules.specs.declared.Operands.{Operands}
use Rattle.rules.specs.Answers.{Refused, Done}
use Rattle.rules.proofs.memory.Cases.{lt_or}
use Rattle.directory_rules.specs.Acts.{own_session}
use Rattle.directory_rules.specs.Directory.{group_register, first_field}

-- the store with register 0 of the directory's session set
abbrev pub with0 : Store → ℕ → Store
with0 s v = with_register s own_session 0 v

-- ---- the session of that store

-- what a session and its replacement have alike is alike at its place
set_alike : {B : Type 0} (f : Session → B) (xs : List Session) (i : ℕ) (x : Session) → f x ≡ f (get_or xs i absent) → f (get_or (set xs i x) i absent) ≡ f (get_or xs i absent)
set_alike f xs i x e =
    lt_or i (length xs) (λ l. rw (get_or-set_same xs i x absent l) e) (λ l. rw (set_out xs i x l) refl)

levels-set : (xs : List Session) (i : ℕ) (x : Session) → x.level ≡ (get_or xs i absent).level → levels_in_range (set xs i x) ≡ levels_in_range xs
levels-set [] i x e = refl
levels-set (y ∷ ys) zero x e = ap (λ (n : ℕ). leb n last_level && levels_in_range ys) e
levels-set (y ∷ ys) (suc i) x e = ap (λ (b : Bool). leb y.level last_level && b) (levels-set ys i x e)

in_range_lem : (s : Store) (v : ℕ) → in_range (with0 s v) ≡ in_range s
unfolding in_range with_register with_session session_at
in_range_lem s v =
    rw (levels-set s.sessions own_session (with_registers (get_or s.sessions own_session absent) (set (get_or s.sessions own_session absent).registers 0 v)) refl)

attached_as : (s : Store) (v : ℕ) → (session_at (with0 s v) own_session).attached ≡ (session_at s own_session).attached
unfolding with_register with_session session_at
attached_as s v = set_alike (λ x. x.attached) s.sessions own_session _ refl

group_as : (s : Store) (v : ℕ) → register (session_at (with0 s v) own_session) group_register ≡ register (session_at s own_session) group_register
unfolding with_register with_session session_at register
group_as s v =
    set_alike (λ x. get_or x.registers group_register null) s.sessions own_session _
    (get_or-set_other (get_or s.sessions own_session absent).registers 0 group_register v null (λ e. omega arith))

memory_as : (s : Store) (v : ℕ) → (with0 s v).memory ≡ s.memory
unfolding with_register with_session
memory_as s v = refl

-- set again
with0_again : (s : Store) (v w : ℕ) → with0 (with0 s v) w ≡ with0 s w
unfolding with_register with_session session_at
with0_again s v w =
    let xs = s.sessions in
    let x = get_or xs own_session absent in
    let y = with_registers x (set x.registers 0 v) in
    lt_or own_session (length xs)
    (λ l. rw (get_or-set_same xs own_session y absent l, set-set x.registers 0 v w, set-set xs own_session y))
    (λ l. rw (set_out xs own_session y l))

-- ---- the load of the first link

-- its tests, by whether the control record is in range, whether the session is attached, and the word of the group's register
abbrev plan : Memory → Bool → Bool → ℕ → Tested ℕ
plan M b a v = do
  check b 4
  check a 6
  check (not (eqb v null)) 11
  followed M v
  check (ltb first_field (refs M v)) 13
  passed (word M v (ref_field first_field))

-- what is got from a followed record
abbrev got : Memory → ℕ → Tested ℕ
got M v = check (ltb first_field (refs M v)) 13 >>= λ u. passed (word M v (ref_field first_field))

from_record : (M : Memory) (t : Tested (Unit {0})) (x : Operands) → (t >>= (λ u. passed x) >>= λ y. got M y.own) ≡ (t >>= λ u. got M x.own)
from_record M (passed u) x = refl
from_record M (refused n) x = refl

from-word : (M : Memory) (b : Bool) (x : Operands)
    → (check b 11 >>= (λ u. passed x) >>= (λ y. followed M y.own >>= λ u. passed y) >>= λ y. got M y.own)
    ≡ (check b 11 >>= λ u. followed M x.own >>= λ u. got M x.own)
from-word M true x = from_record M (followed M x.own) x
from-word M false x = refl

abbrev operands : Session → Operands
operands x = record { level = x.level; own = register x group_register; other = register x 0 }

tests_as : (M : Memory) (b a : Bool) (x : Session)
    → (check b 4 >>= (λ u. check a 6 >>= λ u. passed x)
    >>= (λ y. check (not (eqb (register y group_register) null)) 11 >>= λ u. passed (operands y))
    >>= (λ y. followed M y.own >>= λ u. passed y)
    >>= λ y. got M y.own)
    ≡ plan M b a (register x group_register)
tests_as M true true x = from-word M (not (eqb (register x group_register) null)) (operands x)
tests_as M true false x = refl
tests_as M false a x = refl

plan_as : (s : Store) → load_plan s own_session 0 group_register first_field
    ≡ plan s.memory (in_range s) (session_at s own_session).attached (register (session_at s own_session) group_register)
unfolding load_plan record_of operands_of session_of
plan_as s = tests_as s.memory (in_range s) (session_at s own_session).attached (session_at s own_session)

plan_alike : {M N : Memory} {b c a d : Bool} {v w : ℕ} → M ≡ N → b ≡ c → a ≡ d → v ≡ w → plan M b a v ≡ plan N c d w
plan_alike e f g h = λ i. plan (e i) (f i) (g i) (h i)

plan_aside : (s : Store) (v : ℕ) → load_plan (with0 s v) own_session 0 group_register first_field ≡ load_plan s own_session 0 group_register first_field
plan_aside s v = plan_as (with0 s v) ∙ plan_alike (memory_as s v) (in_range_lem s v) (attached_as s v) (group_as s v) ∙ sym (plan_as s)

-- the load itself
pub load-refused : (s : Store) (n : ℕ) → load_plan s own_session 0 group_register first_field ≡ refused n
    → apply s (Load own_session 0 group_register first_field) ≡ record { store = s; reply = answer (Refused n) }
unfolding calls.load
load-refused s n e = rw e

pub load-done : (s : Store) (w : ℕ) → load_plan s own_session 0 group_register first_field ≡ passed w
    → apply s (Load own_session 0 group_register first_field) ≡ record { store = with0 s w; reply = answer Done }
unfolding calls.load
load-done s w e = rw e

pub load_again : (s : Store) (v w : ℕ) → load_plan s own_session 0 group_register first_field ≡ passed w
    → apply (with0 s v) (Load own_session 0 group_register first_field) ≡ record { store = with0 s w; reply = answer Done }
unfolding calls.load
load_again s v w e = rw (plan_aside s v, e, with0_again s v w)

-- ---- stores that differ in register 0 alone

pub record Aside (s t : Store) : Type 0 where
  pub value : ℕ
  pub same : t ≡ with0 s value

settled : (s t : Store) → Aside s t → (m : Tested ℕ) → Aside s (settle t (m >>= λ w. done (with0 t w))).store
settled s t a (refused n) = a
settled s t a (passed w) = record { value = w; same = ap (λ (u : Store). with0 u w) a.same ∙ with0_again s a.value w }

pub load_aside : (s t : Store) (k i : ℕ) → Aside s t → Aside s (apply t (Load own_session 0 k i)).store
unfolding calls.load
load_aside s t k i a = settled s t a (load_plan t own_session 0 k i)
