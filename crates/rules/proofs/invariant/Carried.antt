-- What carries over to another memory: facts on words whose record is there too, and the groups on values where it has no other records.
use Prim.Native.Nat.{ℕ, ◌≤◌, ◌<◌}
use mathlib.Core.Path.{◌≡◌, sym, ◌∙◌}
use mathlib.Core.Logic.{◌≢◌}
use mathlib.Core.List.{List}
use lib.ListN.{get_or}
use Rattle.rules.specs.Memory.{Memory, null, white, refs, plains, colour, replica, birth_number, copy_of}
use Rattle.rules.specs.Free.{Record, FreeSession}
use Rattle.rules.specs.declared.Session.{Session}
use Rattle.rules.proofs.memory.Records.{Start}
use Rattle.rules.proofs.invariant.Stages.{st_rest, st_stack_flip, st_reclaim}
use Rattle.rules.proofs.invariant.Words.{In, Ok, ok_null, ok_start, Clean, field, plain_of, fwd, reg}
use Rattle.rules.proofs.invariant.Groups.{Identity, Values, Roots}
use Rattle.rules.proofs.invariant.Marking.{Kept}

-- ---- words

pub in_carried : {M M' : Memory} {h v : ℕ} → (Start M v → Start M' v) → In M h v → In M' h v
in_carried to t = record { start = to t.start; side = t.side }

pub ok_carried : {M M' : Memory} {v : ℕ} → (Start M v → Start M' v) → Ok M v → Ok M' v
ok_carried to (ok_null e) = ok_null e
ok_carried to (ok_start t) = ok_start (to t)

pub fwd_carried : {M : Memory} (M' : Memory) (to : ℕ) {v : ℕ} → (Start M v → replica M' v ≡ replica M v) → Ok M v → fwd M' to v ≡ fwd M to v
unfolding fwd copy_of
fwd_carried M' to r (ok_null e) = rw e
fwd_carried M' to r (ok_start t) = rw (r t)

pub clean_carried : {M : Memory} (M' : Memory) {h v : ℕ} → (Start M v → colour M v ≢ white → colour M' v ≢ white) → Ok M v → Clean M h v → Clean M' h v
clean_carried M' c (ok_null e) k n side = absurd (n e)
clean_carried M' c (ok_start t) k n side = c t (k n side)

-- ---- groups

-- every record of M' is one of M, of the same shape
pub record Within (M M' : Memory) : Type 0 where
  pub back : {v : ℕ} → Start M' v → Start M v
  pub refs : {v : ℕ} → Start M' v → refs M' v ≡ refs M v
  pub plains : {v : ℕ} → Start M' v → plains M' v ≡ plains M v

module _ {M M' : Memory} (w : Within M M') where
  pub identity_carried : {m : ℕ → ℕ} {rs : List Record} → ((v : ℕ) → Start M v → birth_number M' v ≡ birth_number M v) → Identity M m rs → Identity M' m rs
  identity_carried same g = record {
    null-place = g.null-place;
    low = λ v t. g.low v (w.back t);
    high = λ v t. g.high v (w.back t);
    born = λ v t. same v (w.back t) ∙ g.born v (w.back t);
    nrefs = λ v t. rw (w.refs t) (g.nrefs v (w.back t));
    nplains = λ v t. rw (w.plains t) (g.nplains v (w.back t));
    apart = λ v w' a b. g.apart v w' (w.back a) (w.back b);
  }

  -- the fields of the current half are the same, and name records of M'
  pub values_carried : {m : ℕ → ℕ} {cur : ℕ} {rs : List Record} → ((v i : ℕ) → In M cur v → i < refs M v → field M' v i ≡ field M v i)
      → ((v i : ℕ) → In M cur v → i < refs M v → Ok M' (field M v i)) → ((v i : ℕ) → In M cur v → i < plains M v → plain_of M' v i ≡ plain_of M v i)
      → Values M m cur rs → Values M' m cur rs
  values_carried same ok plain g = record {
    ok = λ v i t l. let a = in_carried w.back t in let b : i < refs M v = rw (w.refs t.start) at l in rw (same v i a b) (ok v i a b);
    ref = λ v i t l. let a = in_carried w.back t in let b : i < refs M v = rw (w.refs t.start) at l in rw (same v i a b) (g.ref v i a b);
    plain = λ v i t l. let a = in_carried w.back t in let b : i < plains M v = rw (w.plains t.start) at l in rw (plain v i a b) (g.plain v i a b);
  }

-- roots that name records of M', for the places that they had
pub roots_carried : {M M' : Memory} {m m' : ℕ → ℕ} {xs : List Session} {ys : List FreeSession} {gs fgs : List ℕ}
    → ((n k : ℕ) → Ok M' (reg xs n k)) → ((g : ℕ) → Ok M' (get_or gs g null)) → ((u : ℕ) → Ok M u → m' u ≡ m u)
    → Roots M m xs ys gs fgs → Roots M' m' xs ys gs fgs
roots_carried r g same k = record {
  sessions = k.sessions;
  free-sessions = k.free-sessions;
  registers = k.registers;
  free-registers = k.free-registers;
  globals = k.globals;
  free-globals = k.free-globals;
  attached = k.attached;
  idle = k.idle;
  reg_ok = r;
  reg_is = λ n i. k.reg_is n i ∙ sym (same _ (k.reg_ok n i));
  global_ok = g;
  global_is = λ i. k.global_is i ∙ sym (same _ (k.global_ok i));
}

-- what is kept alive, where only what marking has met or a collection has left is asked anew
pub kept_carried : {K : ℕ → Type 0} {M M' : Memory} {m m' : ℕ → ℕ} {cur cur' st st' : ℕ} {rs : List Record} {ys : List FreeSession} {fgs : List ℕ}
    → (st_rest < st' → st' ≤ st_stack_flip → (v : ℕ) → In M' cur' v → colour M' v ≢ white → K (m' v)) → (st' ≡ st_reclaim → (v : ℕ) → In M' cur' v → K (m' v))
    → (st' ≡ st_rest → (v : ℕ) → In M' cur' v → K (m' v)) → Kept K M m cur st rs ys fgs → Kept K M' m' cur' st' rs ys fgs
kept_carried a b c k = record {
  to_come = k.to_come;
  registers = k.registers;
  globals = k.globals;
  fields = k.fields;
  marked = a;
  left-at_reclaim = b;
  left-at_rest = c;
}
