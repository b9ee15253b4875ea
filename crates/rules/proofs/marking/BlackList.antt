-- The grey list and what is clean, after HeapMark has coloured the entry at the list's place black.
use Prim.Native.Nat.{ℕ, ◌+◌, ◌≤◌, ◌<◌, zero-le}
use mathlib.Core.Path.{◌≡◌, sym, ◌∙◌}
use mathlib.Core.Logic.{◌≢◌}
use mathlib.Core.List.{List}
use native.Mathlib.Omega.{arith}
use lib.ListN.{get_or}
use Rattle.rules.specs.Memory.{Memory, null, white, grey, black, colour_at, colour, refs}
use Rattle.rules.specs.declared.Session.{Session}
use Rattle.rules.proofs.memory.Cases.{eq_or, lt_or}
use Rattle.rules.proofs.memory.Put.{PutKept}
use Rattle.rules.proofs.invariant.Stages.{st_rest, st_pre_mark1, st_heap_mark, st_stack_flip}
use Rattle.rules.proofs.invariant.Words.{In, Ok, Clean, field, reg}
use Rattle.rules.proofs.invariant.Protected.{scan, Carries, covered_carried, entry_covers, white_covers}
use Rattle.rules.proofs.invariant.Marking.{GreyList, Cleaned}
use Rattle.rules.proofs.frames.Kept.{in_to, in_back}
use Rattle.rules.proofs.marking.Recolour.{recolour_frame, colour_new, colour_other, field-same, field-still, clean_still, total_still}

module _ {M M' : Memory} {cur st : ℕ} {ws : List ℕ} {head tail : ℕ} (p : PutKept M M' (get_or ws head null) colour_at black) (is : st ≡ st_heap_mark)
    (two : cur < 2) (g : GreyList M cur st ws head tail) (more : head < tail) where
  lo : st_rest < st
  lo = omega arith

  hi : st ≤ st_heap_mark
  hi = omega arith

  oldest : In M cur (get_or ws head null)
  oldest = g.listed lo hi head more

  -- another entry keeps its colour
  entry-colour : (i : ℕ) → i < tail → i ≢ head → colour M' (get_or ws i null) ≡ colour M (get_or ws i null)
  entry-colour i l d = colour_other p (g.listed lo hi i l).start (λ o. d (g.once lo hi i head l more o))

  oldest_grey : colour M (get_or ws head null) ≢ white
  oldest_grey = omega (arith, g.unfinished lo hi head (omega arith) more)

  pub black-list : GreyList M' cur st ws (head + 1) tail
  black-list = record {
    listed = λ a b i l. in_to (recolour_frame p) (g.listed a b i l);
    finished = λ a b i l. lt_or i head
        (λ n. entry-colour i (omega arith) (omega arith) ∙ g.finished a b i n)
        (λ n. let q : i ≡ head = omega arith in rw q (colour_new p));
    unfinished = λ a b i n l. entry-colour i l (omega arith) ∙ g.unfinished a b i (omega arith) l;
    found = λ a b u i c. let o : u ≢ get_or ws head null = λ z. (let w : colour M' (get_or ws head null) ≡ grey = rw z at c in omega (arith, colour_new p)) in
        let j = in_back (recolour_frame p) i in
        let q = g.found a b u j (sym (colour_other p j.start o) ∙ c) in
        (q.0, lt_or head q.0 (λ n. omega arith) (λ n. let y : q.0 ≡ head = omega (arith, q.1) in absurd (o (sym q.3 ∙ rw y))), q.2, q.3);
    once = g.once;
    room = λ a b. rw (total_still p (omega arith) two oldest oldest_grey) (g.room a b);
  }

  -- all its fields are passed: it has protected nothing any more
  black_carries : {wf : ℕ} → refs M (get_or ws head null) ≤ wf → Carries M M' cur (scan ws head tail wf) (scan ws (head + 1) tail 0)
  black_carries all = record {
    entry = λ n i a. let o = g.listed lo hi n a.below in
        lt_or head n
        (λ l. entry_covers n i (field-same p o.start i a.within)
        (record { from = omega arith; below = a.below; within = rw (p.same-refs o.start) a.within; left = λ d. zero-le }))
        (λ l. let y : n ≡ head = omega (arith, a.from) in
        let b : i < refs M (get_or ws head null) = rw y at a.within in absurd (omega (arith, a.left y)));
    link = λ u i o c l k. white_covers u i (field-same p o.start i l) (in_to (recolour_frame p) o)
        (colour_other p o.start (λ z. oldest_grey (rw z at c)) ∙ c) (rw (p.same-refs o.start) l) k;
    whites = λ u o c. eq_or u (get_or ws head null)
        (λ z. absurd (let w : colour M' (get_or ws head null) ≡ white = rw z at c in omega (arith, colour_new p)))
        (λ z. sym (colour_other p o.start z) ∙ c);
  }

  pub black_cleaned : {place wf : ℕ} {xs : List Session} {gs : List ℕ} → ((u i : ℕ) → In M cur u → i < refs M u → Ok M (field M u i))
      → ((k : ℕ) → Ok M (get_or gs k null)) → ((n k : ℕ) → Ok M (reg xs n k)) → refs M (get_or ws head null) ≤ wf
      → Cleaned M cur st place wf ws head tail xs gs → Cleaned M' cur st place 0 ws (head + 1) tail xs gs
  black_cleaned {place} {wf} {xs} {gs} ok root held all q = record {
    fields = fields;
    scanning = λ a b i l. absurd (omega arith);
    scanned-within = λ a b. omega arith;
    globals-below = λ a. absurd (omega arith);
    globals = λ a b k. clean_still p (omega arith) (root k) (q.globals a b k);
    scanned = λ a n k c o. covered_carried (black_carries all) (held n k) (q.scanned a n k c o);
    registers = λ a. absurd (omega arith);
  }
    where
      fields : st_pre_mark1 < st → st ≤ st_stack_flip → (u i : ℕ) → In M' cur u → colour M' u ≡ black → i < refs M' u → Clean M' cur (field M' u i)
      fields a b u i j c l =
          let k : In M cur u = in_back (recolour_frame p) j in
          let n : i < refs M u = rw (p.same-refs k.start) at l in
          field-still p (omega arith) k.start i n (ok u i k n) (eq_or u (get_or ws head null)
          (λ o. let y : i < refs M (get_or ws head null) = rw o at n in rw o (q.scanning is more i (omega arith)))
          (λ o. q.fields a b u i k (sym (colour_other p k.start o) ∙ c) n))
