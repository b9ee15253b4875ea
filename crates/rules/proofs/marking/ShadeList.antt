-- The grey list and what is clean, after the white record v has been coloured grey and appended.
use Prim.Native.Nat.{ℕ, ◌+◌, ◌≤◌, ◌<◌}
use mathlib.Core.Path.{◌≡◌, sym, ◌∙◌}
use mathlib.Core.Logic.{◌≢◌}
use mathlib.Core.List.{List}
use native.Mathlib.Omega.{arith}
use lib.ListN.{get_or, set, length}
use lib.Seq.{get_or-set_same, get_or-set_other}
use Rattle.rules.specs.Memory.{Memory, null, white, grey, black, colour_at, colour, refs}
use Rattle.rules.specs.declared.Session.{Session}
use Rattle.rules.proofs.memory.Cases.{eq_or, lt_or}
use Rattle.rules.proofs.memory.Put.{PutKept}
use Rattle.rules.proofs.invariant.Stages.{st_rest, st_pre_mark1, st_heap_mark, st_stack_flip}
use Rattle.rules.proofs.invariant.Words.{In, Ok, Clean, field, reg}
use Rattle.rules.proofs.invariant.Protected.{scan, Carries, covered_carried, entry_covers, white_covers}
use Rattle.rules.proofs.invariant.Marking.{GreyList, Cleaned}
use Rattle.rules.proofs.frames.Kept.{in_to, in_back}
use Rattle.rules.proofs.marking.Recolour.{recolour_frame, colour_new, colour_other, field-same, field-still, clean_still, total_more}

module _ {M M' : Memory} {v cur st : ℕ} (p : PutKept M M' v colour_at grey) (lo : st_rest < st) (hi : st ≤ st_heap_mark) (two : cur < 2) (t : In M cur v)
    (e : colour M v ≡ white) {ws : List ℕ} {head tail : ℕ} (g : GreyList M cur st ws head tail) (begins : head ≤ tail) (fits : tail < length ws) where
  -- entries below the end stay, and are other records than v
  entry : (i : ℕ) → i < tail → get_or (set ws tail v) i null ≡ get_or ws i null
  entry i l = get_or-set_other ws tail i v null (omega arith)

  last : get_or (set ws tail v) tail null ≡ v
  last = get_or-set_same ws tail v null fits

  -- an entry below the end is marked
  entry_marked : (i : ℕ) → i < tail → colour M (get_or ws i null) ≢ white
  entry_marked i l = lt_or i head
      (λ b. omega (arith, g.finished lo hi i b))
      (λ b. omega (arith, g.unfinished lo hi i b l))

  entry_differs : (i : ℕ) → i < tail → get_or ws i null ≢ v
  entry_differs i l o = entry_marked i l (rw o e)

  -- and keeps its colour
  entry-colour : (i : ℕ) → i < tail → colour M' (get_or (set ws tail v) i null) ≡ colour M (get_or ws i null)
  entry-colour i l = rw (entry i l) (colour_other p (g.listed lo hi i l).start (entry_differs i l))

  pub shade-list : GreyList M' cur st (set ws tail v) head (tail + 1)
  shade-list = record {
    listed = λ a b i l. lt_or i tail
        (λ n. rw (entry i n) (in_to (recolour_frame p) (g.listed lo hi i n)))
        (λ n. let q : i ≡ tail = omega arith in rw (q, last) (in_to (recolour_frame p) t));
    finished = λ a b i l. entry-colour i (omega arith) ∙ g.finished lo hi i l;
    unfinished = λ a b i l n. lt_or i tail
        (λ o. entry-colour i o ∙ g.unfinished lo hi i l o)
        (λ o. let q : i ≡ tail = omega arith in rw (q, last) (colour_new p));
    found = λ a b u i c. eq_or u v
        (λ o. (tail, begins, omega arith, last ∙ sym o))
        (λ o. let q = g.found lo hi u (in_back (recolour_frame p) i) (rw (colour_other p (in_back (recolour_frame p) i).start o) at c) in
        (q.0, q.1, omega (arith, q.2), entry q.0 q.2 ∙ q.3));
    once = λ a b i j l n o. lt_or i tail
        (λ x. lt_or j tail
        (λ y. g.once lo hi i j x y (rw (entry i x, entry j y) at o))
        (λ y. let q : j ≡ tail = omega arith in absurd (entry_differs i x (rw (q, last, entry i x) at o))))
        (λ x. let r : i ≡ tail = omega arith in lt_or j tail
        (λ y. absurd (entry_differs j y (sym (rw (r, last, entry j y) at o))))
        (λ y. omega arith));
    room = λ a b. omega (arith, total_more p (omega arith) two t e, g.room lo hi);
  }

  -- what was protected by way of v is so by its entry
  shade_carries : {wf : ℕ} → (head ≡ tail → wf ≡ 0) → Carries M M' cur (scan ws head tail wf) (scan (set ws tail v) head (tail + 1) wf)
  shade_carries none = record {
    entry = λ n i a. entry_covers n i (rw (entry n a.below) (same-field (g.listed lo hi n a.below) i a.within))
        (record {
          from = a.from;
          below = omega (arith, a.below);
          within = rw (entry n a.below, p.same-refs (g.listed lo hi n a.below).start) a.within;
          left = a.left;
        });
    link = λ u i o c l k. eq_or u v
        (λ z. entry_covers tail i (rw (last, ← z) (same-field o i l)) (record {
          from = begins;
          below = omega arith;
          within = rw (last, ← z, p.same-refs o.start) l;
          left = λ d. omega (arith, none (omega arith));
        }))
        (λ z. white_covers u i (same-field o i l) (in_to (recolour_frame p) o) (colour_other p o.start z ∙ c) (rw (p.same-refs o.start) l) k);
    whites = λ u o c. eq_or u v (λ z. rw z e) (λ z. sym (colour_other p o.start z) ∙ c);
  }
    where
      same-field : {u : ℕ} → In M cur u → (i : ℕ) → i < refs M u → field M' u i ≡ field M u i
      same-field o i l = field-same p o.start i l

  -- what was clean stays so; the fields passed of the entry at the list's place are none where it is v
  pub shade_cleaned : {place wf : ℕ} {xs : List Session} {gs : List ℕ} → ((u i : ℕ) → In M cur u → i < refs M u → Ok M (field M u i))
      → ((k : ℕ) → Ok M (get_or gs k null)) → (st ≡ st_heap_mark → head ≡ tail → wf ≡ 0)
      → ((n k : ℕ) → Ok M (reg xs n k)) → Cleaned M cur st place wf ws head tail xs gs → Cleaned M' cur st place wf (set ws tail v) head (tail + 1) xs gs
  shade_cleaned {place} {wf} {xs} {gs} ok root none held q = record {
    fields = fields;
    scanning = λ a b i l. lt_or head tail
        (λ n. let j = g.listed lo hi head n in
        let o : i < refs M (get_or ws head null) = omega (arith, q.scanned-within a n) in
        rw (entry head n) (field-still p (omega arith) j.start i o (ok (get_or ws head null) i j o) (q.scanning a n i l)))
        (λ n. absurd (omega (arith, none a (omega arith))));
    scanned-within = λ a b. lt_or head tail
        (λ n. rw (entry head n, p.same-refs (g.listed lo hi head n).start) (q.scanned-within a n))
        (λ n. omega (arith, none a (omega arith)));
    globals-below = λ a k l. clean_still p (omega arith) (root k) (q.globals-below a k l);
    globals = λ a b k. clean_still p (omega arith) (root k) (q.globals a b k);
    scanned = λ a n k c o. covered_carried (shade_carries (none a)) (held n k) (q.scanned a n k c o);
    registers = λ a. absurd (omega arith);
  }
    where
      fields : st_pre_mark1 < st → st ≤ st_stack_flip → (u i : ℕ) → In M' cur u → colour M' u ≡ black → i < refs M' u → Clean M' cur (field M' u i)
      fields a b u i j c l =
          let k : In M cur u = in_back (recolour_frame p) j in
          let n : i < refs M u = rw (p.same-refs k.start) at l in
          let o : u ≢ v = λ z. (let w : colour M' v ≡ black = rw z at c in omega (arith, colour_new p)) in
          field-still p (omega arith) k.start i n (ok u i k n) (q.fields a b u i k (sym (colour_other p k.start o) ∙ c) n)
