-- A newly made store beside the new collector-free store keeps the invariant: no record, nobody attached, all null.
use Prim.Native.Nat.{ℕ, ◌/◌, ◌≤◌, ◌<◌}
use mathlib.Core.Path.{◌≡◌, refl, sym, ◌∙◌}
use mathlib.Core.Bool.{Bool, true, false, cond, true≢false}
use mathlib.Core.List.{List, []}
use native.Mathlib.Omega.{arith}
use lib.Dec.{leb, eqb}
use lib.ListN.{get_or, length, get_or-replicate}
use borrow.Author.Tests.{leb-true, eqb-true}
use Rattle.rules.specs.Refusals.{Tested, refused, passed, check, answer}
use Rattle.rules.specs.Memory.{null, frontier, half_of, header}
use Rattle.rules.specs.Control.{Store, Lengths, lengths_of, new_store, nobody, half_allowed, list_allowed, making, made_by, make, walk_limit, global_count, session_count, register_count, last_level, least_length, most_length}
use Rattle.rules.specs.Cycle.{stage}
use Rattle.rules.specs.Phases.{other_half, session_at, absent}
use Rattle.rules.specs.Free.{new_free, free_nobody, free_absent}
use Rattle.rules.specs.Claims.{Made}
use Rattle.rules.specs.Answers.{Done}
use Rattle.rules.proofs.Ranges.{InRange, both, after_check}
use Rattle.rules.proofs.memory.Lists.{all_same, zeros}
use Rattle.rules.proofs.memory.Records.{Start}
use Rattle.rules.proofs.memory.Empty.{empty_none, empty-filled}
use Rattle.rules.proofs.memory.Total.{total_empty}
use Rattle.rules.proofs.invariant.Stages.{st_rest, stage_is}
use Rattle.rules.proofs.invariant.Words.{In, ok_null, reg, freg, copied}
use Rattle.rules.proofs.invariant.Groups.{Roots}
use Rattle.rules.proofs.invariant.Sim.{Sim}
use Rattle.rules.proofs.invariant.Idle.{list_idle, cleaned_idle, walking_idle, roots_home, agreement_early}

-- ---- everything in a list of one element, and past its end

-- the lengths that making allows
pub record Fit (h0 h1 ws : List ℕ) : Type 0 where
  pub least : least_length ≤ length h0
  pub most : length h0 ≤ most_length
  pub equal : length h0 ≡ length h1
  pub enough : length h0 / header ≤ length ws

module _ (K : ℕ → Type 0) (to_come : (q : ℕ) → 0 < q → K q) (h0 h1 ws : List ℕ) (fit : Fit h0 h1 ws) where
  abbrev s : Store
  s = new_store (lengths_of h0 h1 ws) h0 h1 ws

  abbrev m : ℕ → ℕ
  m = λ v. 0

  bare : (h : ℕ) → frontier s.memory h ≡ 0
  unfolding frontier
  bare h = pick (eqb h 0)
    where
      pick : (b : Bool) → ◌≡◌ {A = ℕ} (cond b 0 0) 0
      pick true = refl
      pick false = refl

  none : {v : ℕ} → Start s.memory v → ⊥
  none {v} t = empty_none (bare (half_of v)) t

  none_in : {h v : ℕ} → In s.memory h v → ⊥
  none_in t = none t.start

  new_range : InRange s
  unfolding walk_limit session_at
  new_range = record {
    lent0 = refl;
    lent1 = refl;
    lent2 = refl;
    least = fit.least;
    most = fit.most;
    equal = fit.equal;
    enough = fit.enough;
    half = omega arith;
    front0 = omega arith;
    front1 = omega arith;
    phases = omega arith;
    places = omega arith;
    fields = omega arith;
    begins = omega arith;
    ends = omega arith;
    levels = all_same (λ x. x.level ≤ last_level) nobody absent (omega arith) (omega arith) session_count;
  }

  no_register : (n k : ℕ) → reg s.sessions n k ≡ null
  no_register n k = all_same (λ x. get_or x.registers k null ≡ null) nobody absent (zeros register_count k) refl session_count n

  no_free_register : (n k : ℕ) → freg new_free.sessions n k ≡ null
  unfolding new_free
  no_free_register n k = all_same (λ x. get_or x.registers k null ≡ null) free_nobody free_absent (zeros register_count k) refl session_count n

  no_free_global : (g : ℕ) → get_or new_free.globals g null ≡ null
  unfolding new_free
  no_free_global g = zeros global_count g

  detached : (n : ℕ) → (get_or s.sessions n absent).attached ≡ false
  detached n = all_same (λ x. x.attached ≡ false) nobody absent refl refl session_count n

  free-detached : (n : ℕ) → (get_or new_free.sessions n free_absent).attached ≡ false
  unfolding new_free
  free-detached n = all_same (λ x. x.attached ≡ false) free_nobody free_absent refl refl session_count n

  registers-counted : (n : ℕ) → n < session_count → length (get_or s.sessions n absent).registers ≡ register_count
  registers-counted n l = rw (get_or-replicate session_count n nobody absent l)

  free-registers-counted : (n : ℕ) → n < session_count → length (get_or new_free.sessions n free_absent).registers ≡ register_count
  unfolding new_free
  free-registers-counted n l = rw (get_or-replicate session_count n free_nobody free_absent l)

  counted : (length new_free.sessions ≡ session_count) × (length new_free.globals ≡ global_count)
  unfolding new_free
  counted = (refl, refl)

  new_roots : Roots s.memory m s.sessions new_free.sessions s.globals new_free.globals
  new_roots = record {
    sessions = refl;
    free-sessions = counted.0;
    registers = registers-counted;
    free-registers = free-registers-counted;
    globals = refl;
    free-globals = counted.1;
    attached = λ n. free-detached n ∙ sym (detached n);
    idle = λ n k e. no_register n k;
    reg_ok = λ n k. ok_null (no_register n k);
    reg_is = λ n k. no_free_register n k;
    global_ok = λ g. ok_null (zeros global_count g);
    global_is = λ g. no_free_global g;
  }

  no_records : new_free.records ≡ []
  unfolding new_free
  no_records = refl

  never : (n : ℕ) → (get_or s.sessions n absent).attached ≡ true → ⊥
  never n e = true≢false (sym e ∙ detached n)

  new_stage : stage s.phase ≡ st_rest
  new_stage = stage_is refl

  new_sim : Sim K m s new_free
  new_sim = record {
    range = new_range;
    filled = empty-filled (λ h two. bare h);
    births = rw no_records;
    identity = record {
      null-place = refl;
      low = λ v t. absurd (none t);
      high = λ v t. absurd (none t);
      born = λ v t. absurd (none t);
      nrefs = λ v t. absurd (none t);
      nplains = λ v t. absurd (none t);
      apart = λ v w t. absurd (none t);
    };
    values = record { ok = λ v i t. absurd (none_in t); ref = λ v i t. absurd (none_in t); plain = λ v i t. absurd (none_in t) };
    roots = new_roots;
    levels = record { allowed = λ n e. absurd (never n e) };
    root_halves = roots_home (omega (arith, new_stage)) (λ n k z. absurd (z (no_register n k))) (λ g z. absurd (z (zeros global_count g)));
    field_halves = record {
      home = λ a v i t. absurd (none_in t);
      away = λ a v i t. absurd (none_in t);
      away_ok = λ a v i t. absurd (none_in t);
    };
    pairs = record {
      pair = λ v t. absurd (none_in t);
      home = λ a v t. absurd (none_in t);
      empty = λ a. bare (other_half 0);
      spent = λ a. bare (other_half 0) ∙ sym (total_empty s.memory 0 (bare 0) (copied s.memory));
    };
    agreement = agreement_early (omega (arith, new_stage));
    colours = record {
      at_rest = λ a v t. absurd (none_in t);
      at_reclaim = λ a v t. absurd (none_in t);
      none_black = λ a v t. absurd (none_in t);
      none_grey = λ a b v t. absurd (none_in t);
      replicas_white = λ a v t. absurd (none_in t);
      paired_marked = λ a v t. absurd (none_in t);
      shelled_below = λ a v t. absurd (none_in t);
      shelled = λ a b v t. absurd (none_in t);
    };
    grey-list = list_idle (λ a. omega (arith, new_stage, a.0));
    cleaned = cleaned_idle (λ a. omega (arith, new_stage, a.0));
    walking = walking_idle (omega (arith, new_stage)) (omega (arith, new_stage)) (omega (arith, new_stage)) (omega (arith, new_stage));
    kept = record {
      to_come = λ q l. to_come q (rw no_records at l);
      registers = λ n k z. absurd (z (no_free_register n k));
      globals = λ g z. absurd (z (no_free_global g));
      fields = λ q i k z. absurd (z (rw no_records));
      marked = λ a. absurd (omega (arith, new_stage));
      left-at_reclaim = λ a. absurd (omega (arith, new_stage));
      left-at_rest = λ a v t. absurd (none_in t);
    };
  }

-- ---- of a making that wasn't refused

last : (b : Bool) → check b 3 ≡ passed tt → b ≡ true
last true e = refl
last false e = absurd (let z : ◌≡◌ {A = ℕ} 0 1 = cc in omega arith)

fit_of : (h0 h1 ws : List ℕ) → making (lengths_of h0 h1 ws) ≡ passed tt → Fit h0 h1 ws
unfolding making half_allowed list_allowed
fit_of h0 h1 ws e =
    let a = after_check _ 1 _ e in
    let b = after_check _ 2 _ a.1 in
    let c = both _ _ a.0 in
    let d = both _ _ c.0 in
    record {
      least = leb-true _ _ d.0;
      most = leb-true _ _ d.1;
      equal = eqb-true _ _ b.0;
      enough = leb-true _ _ (last (leb (length h0 / header) (length ws)) b.1);
    }

accepted : (t : Tested (Unit {0})) (n : Lengths) (h0 h1 ws : List ℕ) → (made_by t n h0 h1 ws).reply ≡ answer Done → t ≡ passed tt
accepted (refused k) n h0 h1 ws e = absurd (let z : ◌≡◌ {A = ℕ} 0 1 = cc in omega arith)
accepted (passed u) n h0 h1 ws e = refl

pub start_sim : (K : ℕ → Type 0) → ((q : ℕ) → 0 < q → K q) → (s : Store) → Made s → Sim K (λ v. 0) s new_free
unfolding make
start_sim K to_come s k =
    let p = accepted (making (lengths_of k.half0 k.half1 k.list)) _ _ _ _ k.accepted in
    let e : (make k.half0 k.half1 k.list).store ≡ new_store (lengths_of k.half0 k.half1 k.list) k.half0 k.half1 k.list = rw p in
    rw (sym k.fresh ∙ e) (new_sim K to_come k.half0 k.half1 k.list (fit_of k.half0 k.half1 k.list p))
