-- What stores agree in, and the store calls that change no more than a register of the directory's session, on any store.
use Prim.Native.Nat.{ℕ}
use mathlib.Core.Path.{◌≡◌, refl, sym, ◌∙◌}
use mathlib.Core.Bool.{Bool, true, false, false≢true}
use lib.ListN.{length, get_or, set, length-set}
use lib.Seq.{ext_get_or, get_or-set_other}
use Rattle.rules.specs.Control.{Store}
use Rattle.rules.specs.Phases.{session_at, with_session, with_registers, absent}
use Rattle.rules.specs.Calls as calls
use Rattle.rules.specs.Calls.{with_register}
use Rattle.rules.specs.Runs.{is_allocation, apply}
use Rattle.rules.specs.declared.Session.{Session}
use Rattle.rules.proofs.memory.Cases.{eq_or}
use Rattle.directory_rules.specs.Acts.{own_session, own_global, Ask, attach, safe_point, allocate, load, store, read, write, move, clear, get, put, call_of}
use Rattle.directory_rules.specs.Claims.{Beyond}
use Rattle.directory_rules.proofs.Lists.{set_holds}
use Rattle.directory_rules.proofs.acts.Ends.{Ends, ends, settled, after_tests}

-- ---- stores that agree but in the level and registers of the directory's session

pub beyond_same : (s : Store) → Beyond s s
beyond_same s = search

pub beyond_then : {s t u : Store} → Beyond s t → Beyond t u → Beyond s u
beyond_then h k = record {
  lengths = h.lengths ∙ k.lengths;
  memory = h.memory ∙ k.memory;
  current = h.current ∙ k.current;
  phase = h.phase ∙ k.phase;
  walk = h.walk ∙ k.walk;
  list = h.list ∙ k.list;
  births = h.births ∙ k.births;
  globals = h.globals ∙ k.globals;
  others = λ n d. h.others n d ∙ k.others n d;
  share = h.share ∙ k.share;
  charge = h.charge ∙ k.charge;
  attached = h.attached ∙ k.attached;
  scanned = h.scanned ∙ k.scanned;
}

-- what is the same of the session and of the one that replaces it
own_same : {B : Type 0} (f : Session → B) (s : Store) (x : Session) → f (session_at s own_session) ≡ f x → f (session_at s own_session) ≡ f (session_at (with_session s own_session x) own_session)
unfolding with_session session_at
own_same f s x e = set_holds (λ z. f (get_or s.sessions own_session absent) ≡ f z) s.sessions own_session x absent own_session e refl

pub beyond_session : (s : Store) (x : Session) → (session_at s own_session).share ≡ x.share → (session_at s own_session).charge ≡ x.charge
    → (session_at s own_session).attached ≡ x.attached → (session_at s own_session).scanned ≡ x.scanned → Beyond s (with_session s own_session x)
unfolding with_session session_at
beyond_session s x c d a b = record {
  lengths = refl;
  memory = refl;
  current = refl;
  phase = refl;
  walk = refl;
  list = refl;
  births = refl;
  globals = refl;
  others = λ n e. sym (get_or-set_other s.sessions own_session n x absent e);
  share = own_same (λ z. z.share) s x c;
  charge = own_same (λ z. z.charge) s x d;
  attached = own_same (λ z. z.attached) s x a;
  scanned = own_same (λ z. z.scanned) s x b;
}

-- ---- in the registers alone, of which there are as many

pub record OnlyRegisters (s t : Store) : Type 0 where
  pub beyond : Beyond s t
  pub sessions : length s.sessions ≡ length t.sessions
  pub level : (session_at s own_session).level ≡ (session_at t own_session).level
  pub registers : length (session_at s own_session).registers ≡ length (session_at t own_session).registers

pub only_same : (s : Store) → OnlyRegisters s s
only_same s = record { beyond = beyond_same s; sessions = refl; level = refl; registers = refl }

pub only_then : {s t u : Store} → OnlyRegisters s t → OnlyRegisters t u → OnlyRegisters s u
only_then h k = record {
  beyond = beyond_then h.beyond k.beyond;
  sessions = h.sessions ∙ k.sessions;
  level = h.level ∙ k.level;
  registers = h.registers ∙ k.registers;
}

set-sessions : (s : Store) (x : Session) → length s.sessions ≡ length (with_session s own_session x).sessions
unfolding with_session
set-sessions s x = sym (length-set s.sessions own_session x)

pub only_set : (s : Store) (k v : ℕ) → OnlyRegisters s (with_register s own_session k v)
unfolding with_register
only_set s k v =
    let x = session_at s own_session in
    let y = with_registers x (set x.registers k v) in
    record {
      beyond = beyond_session s y refl refl refl refl;
      sessions = set-sessions s y;
      level = own_same (λ z. z.level) s y refl;
      registers = own_same (λ z. length z.registers) s y (sym (length-set x.registers k v));
    }

session-same : (x y : Session) → x.registers ≡ y.registers → x.level ≡ y.level → x.share ≡ y.share → x.charge ≡ y.charge
    → x.attached ≡ y.attached → x.scanned ≡ y.scanned → x ≡ y
session-same x y a b e f c d = λ i. record { registers = a i; level = b i; share = e i; charge = f i; attached = c i; scanned = d i }

store_same : (s t : Store) → Beyond s t → s.sessions ≡ t.sessions → s ≡ t
store_same s t h e = λ i.
    record {
      lengths = h.lengths i;
      memory = h.memory i;
      current = h.current i;
      phase = h.phase i;
      walk = h.walk i;
      list = h.list i;
      births = h.births i;
      globals = h.globals i;
      sessions = e i;
    }

-- with the registers too the stores are the same
pub only_all : (s t : Store) → OnlyRegisters s t → (session_at s own_session).registers ≡ (session_at t own_session).registers → s ≡ t
unfolding session_at
only_all s t h e = store_same s t h.beyond (ext_get_or absent s.sessions t.sessions h.sessions (λ i l. eq_or i own_session
    (λ z. rw z (session-same (get_or s.sessions own_session absent) (get_or t.sessions own_session absent) e h.level h.beyond.share h.beyond.charge h.beyond.attached h.beyond.scanned))
    (λ d. h.beyond.others i d)))

-- ---- the calls

ruleset quiet_call = (after_tests, ends, only_same, only_set)

module _ (s : Store) where
  load_only : (to k i : ℕ) → Ends (OnlyRegisters s) (calls.load s own_session to k i)
  unfolding calls.load
  load_only to k i = search quiet_call

  read_only : (k i : ℕ) → Ends (OnlyRegisters s) (calls.read s own_session k i)
  unfolding calls.read
  read_only k i = search quiet_call

  move_only : (to from : ℕ) → Ends (OnlyRegisters s) (calls.move s own_session to from)
  unfolding calls.move
  move_only to from = search quiet_call

  clear_only : (k : ℕ) → Ends (OnlyRegisters s) (calls.clear s own_session k)
  unfolding calls.clear
  clear_only k = search quiet_call

  get_only : (to g : ℕ) → Ends (OnlyRegisters s) (calls.get s own_session to g)
  unfolding calls.get
  get_only to g = search quiet_call

-- what an act may call: while nothing is written, what writes no more than a register; later, all but an allocation
abbrev pub may : Bool → Ask → Bool
may late (attach share) = late
may late safe_point = late
may late (allocate k r p) = false
may late (load to k i) = true
may late (store k i from) = late
may late (read k i) = true
may late (write k i a) = late
may late (move to from) = true
may late (clear k) = true
may late (get to) = true
may late (put from) = late

pub early_only : (s : Store) (c : Ask) → may false c ≡ true → OnlyRegisters s (apply s (call_of c)).store
early_only s (attach share) e = absurd (false≢true e)
early_only s safe_point e = absurd (false≢true e)
early_only s (allocate k r p) e = absurd (false≢true e)
early_only s (load to k i) e = settled s (load_only s to k i) (only_same s)
early_only s (store k i from) e = absurd (false≢true e)
early_only s (read k i) e = settled s (read_only s k i) (only_same s)
early_only s (write k i a) e = absurd (false≢true e)
early_only s (move to from) e = settled s (move_only s to from) (only_same s)
early_only s (clear k) e = settled s (clear_only s k) (only_same s)
early_only s (get to) e = settled s (get_only s to own_global) (only_same s)
early_only s (put from) e = absurd (false≢true e)

pub no_allocation : (late : Bool) (c : Ask) → may late c ≡ true → is_allocation (call_of c) ≡ false
no_allocation late (attach share) e = refl
no_allocation late safe_point e = refl
no_allocation late (allocate k r p) e = sym e
no_allocation late (load to k i) e = refl
no_allocation late (store k i from) e = refl
no_allocation late (read k i) e = refl
no_allocation late (write k i a) e = refl
no_allocation late (move to from) e = refl
no_allocation late (clear k) e = refl
no_allocation late (get to) e = refl
no_allocation late (put from) e = refl
