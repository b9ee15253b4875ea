-- The record that a register names, of either half: its fields may be loaded, and its words are the collector-free ones.
use Prim.Native.Nat.{ℕ, suc, ◌≤◌, ◌<◌}
use mathlib.Core.Path.{◌≡◌, refl, sym, ◌∙◌}
use mathlib.Core.Bool.{true}
use native.Mathlib.Omega.{arith}
use lib.ListN.{get_or, length}
use Rattle.rules.specs.Memory.{Memory, null, white, grey, colour, refs, plains}
use Rattle.rules.specs.Control.{Store}
use Rattle.rules.specs.Cycle.{stage}
use Rattle.rules.specs.Phases.{other_half}
use Rattle.rules.specs.Free.{Free, record_at}
use Rattle.rules.specs.declared.Session.{Session}
use Rattle.rules.proofs.memory.Cases.{eq_or, lt_or}
use Rattle.rules.proofs.memory.Records.{Start, start_nonnull}
use Rattle.rules.proofs.invariant.Stages.{st_heap_mark, st_pre_flip2, st_stack_flip}
use Rattle.rules.proofs.invariant.Words.{In, field, plain_of, rec_of}
use Rattle.rules.proofs.invariant.Groups.{NoFlip}
use Rattle.rules.proofs.invariant.Protected.{scan_of, entry_of, Covered, clean_covered, entry_covers, white_covers}
use Rattle.rules.proofs.invariant.Sim.{Sim}
use Rattle.rules.proofs.invariant.Laws.{in_or, cur_two, other_not, marked_black}
use Rattle.rules.proofs.invariant.Originals.{original_ref, original_plain}
use Rattle.rules.proofs.invariant.Alive.{alive}
use Rattle.rules.proofs.sessions.Session.{WordFits}

-- what a record v gives a session x that holds it
pub record Fields (K : ℕ → Type 0) (m : ℕ → ℕ) (s : Store) (f : Free) (x : Session) (v : ℕ) : Type 0 where
  pub nrefs : length (record_at f (m v)).refs ≡ refs s.memory v
  pub nplains : length (record_at f (m v)).plains ≡ plains s.memory v
  pub ref : (i : ℕ) → i < refs s.memory v → WordFits K m s x (field s.memory v i) (get_or (record_at f (m v)).refs i null)
  pub plain : (i : ℕ) → i < plains s.memory v → get_or (record_at f (m v)).plains i 0 ≡ plain_of s.memory v i

-- the collector-free record has as many fields
module _ {K : ℕ → Type 0} {m : ℕ → ℕ} {s : Store} {f : Free} (h : Sim K m s f) {v : ℕ} (z : Start s.memory v) where
  pub free-refs : length (record_at f (m v)).refs ≡ refs s.memory v
  unfolding record_at
  free-refs = h.identity.nrefs v z

  pub free-plains : length (record_at f (m v)).plains ≡ plains s.memory v
  unfolding record_at
  free-plains = h.identity.nplains v z

-- the phases in which words may name the other half
flips : (st : ℕ) → (NoFlip st → ⊥) → (st_pre_flip2 ≤ st) × (st ≤ st_stack_flip)
flips st c =
    lt_or st st_pre_flip2 (λ a. absurd (c (omega arith))) (λ a. lt_or st_stack_flip st (λ b. absurd (c (λ z. b))) (λ b. (a, b)))

module _ {K : ℕ → Type 0} {m : ℕ → ℕ} {s : Store} {f : Free} (h : Sim K m s f) {x : Session} {v q : ℕ} (t : WordFits K m s x v q) (z : Start s.memory v) where
  abbrev M : Memory
  M = s.memory

  held_kept : K (m v)
  held_kept = alive h t.ok (start_nonnull z) t.is t.kept

  -- ---- of the current half

  -- a field of a listed record: HeapMark has passed it, or has still to come to it
  listed-field : stage s.phase ≡ st_heap_mark → (n i : ℕ) → s.list.head ≤ n → n < s.list.tail → entry_of (scan_of s) n ≡ v → i < refs M v
      → Covered M s.current (scan_of s) (field M v i)
  listed-field p n i a b e l = lt_or n (suc s.list.head)
      (λ c. let y : n ≡ s.list.head = omega arith in
      lt_or i s.walk.field
      (λ d. clean_covered (rw (← e, y) (h.cleaned.scanning p (omega arith) i d)))
      (λ d. to_pass (λ o. d)))
      (λ c. to_pass (λ o. absurd (omega arith)))
    where
      to_pass : (n ≡ s.list.head → s.walk.field ≤ i) → Covered M s.current (scan_of s) (field M v i)
      to_pass d = entry_covers n i (rw e) (record { from = a; below = b; within = rw e l; left = d })

  -- what a scanned session loads: from a black record what is clean, from a grey or a white one what is protected at most
  scanned-field : stage s.phase ≡ st_heap_mark → x.scanned ≡ true → In M s.current v → (i : ℕ) → i < refs M v
      → Covered M s.current (scan_of s) (field M v i)
  scanned-field p b c i l = eq_or (colour M v) white
      (λ e. white_covers v i refl c e l (t.scanned p b))
      (λ w. eq_or (colour M v) grey
      (λ g. let o = h.grey-list.found (omega arith) (omega arith) v c g in listed-field p o.0 i o.1 o.2 o.3 l)
      (λ g. clean_covered (h.cleaned.fields (omega arith) (omega arith) v i c (omega (arith, h.filled.colours z)) l)))

  home_ref : In M s.current v → (i : ℕ) → i < refs M v → WordFits K m s x (field M v i) (get_or (rec_of f.records (m v)).refs i null)
  home_ref c i l = record {
    ok = h.values.ok v i c l;
    is = h.values.ref v i c l;
    names = λ a. h.field_halves.home a v i c l;
    marked = λ p b. absurd (other_not h (sym (t.marked p b (start_nonnull z)) ∙ c.side));
    scanned = λ p b. scanned-field p b c i l;
    clean = λ lo hi. h.cleaned.fields (omega arith) hi v i c (marked_black h lo hi c (t.clean lo hi (start_nonnull z) c.side)) l;
    kept = h.kept.fields (m v) i held_kept;
  }

  -- ---- of the other half: what its original gives
  module _ (c : In M (other_half s.current) v) where
    flipping : (st_pre_flip2 ≤ stage s.phase) × (stage s.phase ≤ st_stack_flip)
    flipping = flips (stage s.phase) (λ a. other_not h (sym c.side ∙ t.names a (start_nonnull z)))

    away_ref : (i : ℕ) → i < refs M v → WordFits K m s x (field M v i) (get_or (rec_of f.records (m v)).refs i null)
    away_ref i l =
        let lo = flipping.0 in
        let hi = flipping.1 in
        let away = h.field_halves.away hi v i c l in
        record {
          ok = h.field_halves.away_ok hi v i c l;
          is = original_ref h hi c (omega arith) i l;
          names = λ a. absurd (omega (arith, a lo));
          marked = λ p b. away;
          scanned = λ p b. absurd (omega arith);
          clean = λ a b n e. absurd (other_not h (sym (away n) ∙ e));
          kept = h.kept.fields (m v) i held_kept;
        }

    away_plain : (i : ℕ) → i < plains M v → get_or (rec_of f.records (m v)).plains i 0 ≡ plain_of M v i
    away_plain = original_plain h flipping.1 c (omega (arith, flipping.0))

  pub record_values : Fields K m s f x v
  unfolding record_at
  record_values = record {
    nrefs = free-refs h z;
    nplains = free-plains h z;
    ref = in_or s.current (cur_two h) z home_ref away_ref;
    plain = in_or s.current (cur_two h) z (λ c i l. h.values.plain v i c l) away_plain;
  }
