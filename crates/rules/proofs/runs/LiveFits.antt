-- What registers and globals reach fits in a half: each such place is that of a record of the current half, different places are
-- those of different records, and the words of these end at the frontier.
use Prim.Native.Nat.{ℕ, suc, ◌+◌, ◌≤◌, ◌<◌}
use mathlib.Core.Path.{◌≡◌, refl, sym, ◌∙◌}
use mathlib.Core.Logic.{◌≢◌}
use mathlib.Core.Bool.{cond}
use mathlib.Core.List.Memᴰ
use mathlib.Core.List.{List, [], ◌∷◌, Memᴰ}
use native.Mathlib.Nat.{zero-add}
use native.Mathlib.Omega.{arith}
use lib.Dec.{eqb}
use lib.ListN.{get_or, length, get_or-eq_default}
use borrow.Author.Tests.{eq-eqb, ne_eqb}
use Rattle.rules.specs.Memory.{Memory, null, half_of, refs, size}
use Rattle.rules.specs.Control.{Store}
use Rattle.rules.specs.Cycle.{stage}
use Rattle.rules.specs.Free.{Free, record_at, free_session, free_register}
use Rattle.rules.specs.Tracking.{Reached, by_register, by_global, by_field, words_at}
use Rattle.rules.proofs.memory.Cases.{lt_or, either}
use Rattle.rules.proofs.memory.Records.{Start, start_nonnull}
use Rattle.rules.proofs.memory.Total.{total, total_bump, total_equal, total_size}
use Rattle.rules.proofs.memory.Listing.{sum_over, words_of, Listed}
use Rattle.rules.proofs.invariant.Stages.{st_stack_flip}
use Rattle.rules.proofs.invariant.Words.{In, Ok, ok_null, ok_start, Names, rec_of}
use Rattle.rules.proofs.invariant.Groups.{NoFlip}
use Rattle.rules.proofs.invariant.Range.{frontier_range}
use Rattle.rules.proofs.invariant.Sim.{Sim}
use Rattle.rules.proofs.invariant.Laws.{cur_two, in_or, place-size}
use Rattle.rules.proofs.invariant.Originals.{original, original_in}

-- ---- what is reached has a record in the current half

module _ {K : ℕ → Type 0} {m : ℕ → ℕ} {s : Store} {f : Free} (h : Sim K m s f) where
  abbrev Home : ℕ → Type 0
  Home q = Listed s.memory s.current m q

  of_in : {v : ℕ} → In s.memory s.current v → Home (m v)
  of_in {v} t = record { named = v; start = t.start; side = t.side; value = refl }

  -- a word that names the other half: up to StackFlip the original there has the same place; after it no such word is met
  of_word : {v : ℕ} → Ok s.memory v → (NoFlip (stage s.phase) → Names s.current v) → m v ≢ null → Home (m v)
  of_word (ok_null e) names n = absurd (n (rw e h.identity.null-place))
  of_word (ok_start t) names n = lt_or st_stack_flip (stage s.phase)
      (λ past. of_in (record { start = t; side = names (λ l. past) (start_nonnull t) }))
      (λ hi. in_or s.current (cur_two h) t of_in (λ o. rw (original h hi o).same at (of_in (original_in h hi o))))

  of_root : {q v : ℕ} → q ≡ m v → Ok s.memory v → (NoFlip (stage s.phase) → Names s.current v) → q ≢ null → Home q
  of_root e o names n = rw e (of_word o names (λ z. n (e ∙ z)))

  of_field : {q : ℕ} (i : ℕ) → Home q → get_or (record_at f q).refs i null ≢ null → Home (get_or (record_at f q).refs i null)
  unfolding record_at
  of_field {q} i x n =
      let v = x.named in
      let t : In s.memory s.current v = record { start = x.start; side = x.side } in
      lt_or i (refs s.memory v)
      (λ l. of_root (rw x.value at (h.values.ref v i t l)) (h.values.ok v i t l) (λ z. h.field_halves.home z v i t l) n)
      (λ l. absurd (n (get_or-eq_default (rec_of f.records q).refs null (rw (← x.value, h.identity.nrefs v x.start) l))))

  pub reached_home : {q : ℕ} → Reached f q → Home q
  unfolding free_session free_register
  reached_home (by_register n k e) = of_root (h.roots.reg_is n k) (h.roots.reg_ok n k) (λ z. h.root_halves.regs z n k) e
  reached_home (by_global g e) = of_root (h.roots.global_is g) (h.roots.global_ok g) (λ z. h.root_halves.globals z g) e
  reached_home (by_field q i r e) = of_field i (reached_home r) e

-- ---- different values weigh no more than the half

abbrev pub Once : List ℕ → Type 0
Once qs = (i j : ℕ) → i < length qs → j < length qs → get_or qs i 0 ≡ get_or qs j 0 → i ≡ j

member_at : {q : ℕ} (qs : List ℕ) → Memᴰ q qs → {C : Type 0} → ((i : ℕ) → i < length qs → q ≡ get_or qs i 0 → C) → C
member_at [] x k = absurd (Memᴰ.not-nil x)
member_at (p ∷ qs) x k = either (Memᴰ.cases_cons x) (k 0 (omega arith)) (λ y. member_at qs y (λ i l. k (suc i) (omega arith)))

-- the weight with that of q left out
left_out : ℕ → (ℕ → ℕ) → ℕ → ℕ
left_out q w p = cond (eqb p q) 0 (w p)

sum_left-out : (q : ℕ) (w : ℕ → ℕ) (qs : List ℕ) → ((p : ℕ) → Memᴰ p qs → p ≢ q) → sum_over (left_out q w) qs ≡ sum_over w qs
unfolding sum_over left_out
sum_left-out q w [] d = refl
sum_left-out q w (p ∷ qs) d = rw (ne_eqb p q (d p (Memᴰ.head refl)), sum_left-out q w qs (λ x y. d x (Memᴰ.tail y)))

module _ {M : Memory} {g : ℕ} (two : g < 2) {m : ℕ → ℕ} (apart : (u v : ℕ) → Start M u → Start M v → half_of u ≡ half_of v → m u ≡ m v → u ≡ v) where
  total_left-out : (w : ℕ → ℕ) {q : ℕ} (x : Listed M g m q) → total M g (λ v. w (m v)) ≡ total M g (λ v. left_out q w (m v)) + w q
  unfolding left_out
  total_left-out w {q} x = total_bump M two (λ v. left_out q w (m v)) (λ v. w (m v)) x.start x.side (w q)
      (rw (x.value, eq-eqb q q refl) (sym (zero-add (w q))))
      (λ u t side d. rw (ne_eqb (m u) q (λ e. d (apart u x.named t x.start (side ∙ sym x.side) (e ∙ sym x.value)))))

  once_fits : (w : ℕ → ℕ) (qs : List ℕ) → ((q : ℕ) → Memᴰ q qs → Listed M g m q) → Once qs → sum_over w qs ≤ total M g (λ v. w (m v))
  unfolding sum_over
  once_fits w [] home once = omega arith
  once_fits w (q ∷ qs) home once =
      let other : (p : ℕ) → Memᴰ p qs → p ≢ q = λ p x e. member_at qs x (λ i l z. absurd (omega (arith, once 0 (suc i) (omega arith) (omega arith) (sym e ∙ z)))) in
      let ih = once_fits (left_out q w) qs (λ p x. home p (Memᴰ.tail x)) (λ i j a b e. let z = once (suc i) (suc j) (omega arith) (omega arith) e in omega arith) in
      omega (arith, ih, sum_left-out q w qs other, total_left-out w (home q (Memᴰ.head refl)))

-- ---- together

words_sum : (f : Free) (qs : List ℕ) → words_at f qs ≡ sum_over (words_of f) qs
unfolding sum_over
words_sum f [] = refl
words_sum f (q ∷ qs) = rw (words_sum f qs)

pub reached_fits : {K : ℕ → Type 0} {m : ℕ → ℕ} {s : Store} {f : Free} → Sim K m s f → (qs : List ℕ) → ((q : ℕ) → Memᴰ q qs → Reached f q)
    → Once qs → words_at f qs ≤ s.lengths.half0
reached_fits {K} {m} {s} {f} h qs reached once =
    let a = once_fits (cur_two h) h.identity.apart (words_of f) qs (λ q x. reached_home h (reached q x)) once in
    let b = total_equal s.memory (cur_two h) (λ v. words_of f (m v)) (size s.memory) (λ v t side. place-size h t) in
    omega (arith, a, b, words_sum f qs, total_size h.filled (cur_two h), frontier_range h.range s.current)
