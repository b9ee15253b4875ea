-- Several links by their plans: a single store on a store with pending words, what it adds to them, and one link after another.
use Prim.Native.Nat.{ℕ, ◌+◌, ◌*◌, ◌≤◌, ◌<◌}
use mathlib.Core.Path.{◌≡◌, refl, sym, ap, ◌∙◌}
use mathlib.Core.Bool.{Bool, true, false, cond}
use mathlib.Core.List.{List, [], ◌∷◌, ◌++◌}
use native.Mathlib.Omega.{arith}
use lib.Dec.{eqb}
use lib.ListN.{length, set, get_or, drop, length-append}
use Rattle.std.proofs.lemmas.List.{drop_more}
use lib.Seq.{sets, length-sets}
use borrow.Author.Tests.{eq-eqb, ne_eqb}
use Rattle.rules.specs.Refusals.{passed, refused, done}
use Rattle.rules.specs.Memory.{Memory, null, half_of, word_of, in_half, colour_at, grey, ref_field, put}
use Rattle.rules.specs.Control.{Store, in_range, with_memory, with_list}
use Rattle.rules.specs.Phases.{session_at, fromspace}
use Rattle.rules.specs.Barriers.{shade, shade_both, put_both}
use Rattle.rules.specs.Calls.{session_of, operands_of, record_of, store_plan, store_commit, store, store_each}
use Rattle.rules.specs.declared.Link.{Link}
use Rattle.rules.specs.declared.StorePlan.{StorePlan}
use Rattle.rules.specs.declared.Writes.{Writes}
use Rattle.rules.proofs.Ranges.{InRange}
use Rattle.rules.proofs.memory.Cases.{eq_or}
use Rattle.heap.specs.View.{Has}
use Rattle.heap.specs.Pending.{laid, memory_with}
use Rattle.heap.specs.declared.halves.Pending.{Pending}
use Rattle.heap.proofs.Placing.{half_any}
use Rattle.heap.proofs.Laid.{laid-append, laid-put}
use Rattle.store.specs.View.{view, view_with}
use Rattle.store.specs.Links.{place_of, link_words, most_word, Placeable, entry_of, LinkWrites, with_link, with_pending, Listed, tailed}
use Rattle.store.specs.declared.Control.{Control}
use Rattle.store.proofs.calls.Rows.{sets-append}
use Rattle.store.proofs.calls.Store.{Storable, storable}
use Rattle.store.proofs.calls.Stretch.{half-small}

-- ---- the plan: of the list only its length and its end count

pub plan_after : (c : Control) (p : LinkWrites) (h0 h1 l : List ℕ) (n k i from : ℕ)
    → store_plan (with_pending (view c h0 h1 l) p) n k i from ≡ store_plan (view_with (tailed c (c.cursor.tail + length p.entries)) p.words h0 h1 l) n k i from
unfolding store_plan record_of operands_of session_of session_at in_range fromspace
plan_after c p h0 h1 l n k i from = rw (length-sets l c.cursor.tail p.entries)

-- ---- what a store writes, as pending words and entries

-- a word put where there is a record
abbrev put_or : Memory → ℕ → ℕ → ℕ → Memory
put_or M v j x = cond (eqb v null) M (put M v j x)

abbrev laid_on : List Pending → Memory → Memory
laid_on xs M = memory_with xs M.half0 M.half1 M.frontier0 M.frontier1

laid-null : (h x : ℕ) (xs : List Pending) (ws : List ℕ) → laid h (record { place = null; word = x } ∷ xs) ws ≡ laid h xs ws
unfolding in_half
laid-null h x xs ws = refl

laid-place : (xs : List Pending) (M : Memory) (v j x : ℕ) → ((v ≡ 0 → ⊥) → 2 ≤ v)
    → laid_on (record { place = place_of v j; word = x } ∷ xs) M ≡ laid_on xs (put_or M v j x)
laid-place xs M v j x named = eq_or v 0
    (λ e. rw (eq-eqb v 0 e, laid-null 0 x xs M.half0, laid-null 1 x xs M.half1))
    (λ n. rw (ne_eqb v 0 n) (laid-put xs M.half0 M.half1 M.frontier0 M.frontier1 v j x (named n)))

-- the words of a link
laid-link : (M : Memory) (v i : ℕ) (w : Writes) → ((w.first ≡ 0 → ⊥) → 2 ≤ w.first) → ((w.second ≡ 0 → ⊥) → 2 ≤ w.second) → 2 ≤ v → ((w.replica ≡ 0 → ⊥) → 2 ≤ w.replica)
    → laid_on (link_words v i w) M ≡ put_both (put_or (put_or M w.first colour_at grey) w.second colour_at grey) v (ref_field i) w.own w.replica (ref_field i) w.copy
unfolding put_both
laid-link M v i w first second own copy =
    let A = put_or M w.first colour_at grey in
    let B = put_or A w.second colour_at grey in
    let C = put_or B v (ref_field i) w.own in
    let z : eqb v null ≡ false = ne_eqb v null (λ e. omega arith) in
    let fields : List Pending = record { place = place_of v (ref_field i); word = w.own } ∷ record { place = place_of w.replica (ref_field i); word = w.copy } ∷ [] in
    laid-place (record { place = place_of w.second colour_at; word = grey } ∷ fields) M w.first colour_at grey first
    ∙ laid-place fields A w.second colour_at grey second
    ∙ laid-place (record { place = place_of w.replica (ref_field i); word = w.copy } ∷ []) B v (ref_field i) w.own (λ n. own)
    ∙ laid-place [] C w.replica (ref_field i) w.copy copy
    ∙ rw z

-- shading: the colour, and an entry at the list's end
shade_entered : (s : Store) (v : ℕ)
    → shade s v ≡ with_list (with_memory s (put_or s.memory v colour_at grey)) (sets s.list.words s.list.tail (entry_of v)) s.list.head (s.list.tail + length (entry_of v))
unfolding shade
shade_entered s v = by_null (eqb v null)
  where
    by_null : (b : Bool) → cond b s (with_list (with_memory s (put s.memory v colour_at grey)) (set s.list.words s.list.tail v) s.list.head (s.list.tail + 1))
        ≡ with_list (with_memory s (cond b s.memory (put s.memory v colour_at grey))) (sets s.list.words s.list.tail (cond b [] (v ∷ []))) s.list.head
        (s.list.tail + length (cond b [] (v ∷ [])))
    by_null true = let e : s.list.tail + 0 ≡ s.list.tail = omega arith in rw e
    by_null false = refl

-- the store after the writes of a plan on a store with links written: those of its link are written too
commit_with : (s : Store) (p : LinkWrites) (q : StorePlan) (i : ℕ) → Storable (with_pending s p) i q.into q.writes
    → store_commit (with_pending s p) i q ≡ with_pending s (with_link p q i)
unfolding store_commit shade_both
commit_with s p q i k =
    let M = s.memory in
    let w = q.writes in
    let es₁ = p.entries ++ entry_of w.first in
    let es₂ = es₁ ++ entry_of w.second in
    let link = laid-link (laid_on p.words M) q.into i w (λ n. (k.shaded.0 n).0.named) (λ n. (k.shaded.1 n).0.named) k.own.named (λ n. (k.copy n).named) in
    let one = sets-append s.list.words s.list.tail p.entries (entry_of w.first) in
    let two = sets-append s.list.words s.list.tail es₁ (entry_of w.second) in
    let here : s.list.tail + length es₁ ≡ s.list.tail + length p.entries + length (entry_of w.first) = omega (arith, length-append p.entries (entry_of w.first)) in
    let end : s.list.tail + length es₂ ≡ s.list.tail + length p.entries + length (entry_of w.first) + length (entry_of w.second) = omega (arith, here, length-append es₁ (entry_of w.second)) in
    rw (
      shade_entered (shade (with_pending s p) w.first) w.second,
      shade_entered (with_pending s p) w.first,
      laid-append 0 p.words (link_words q.into i w) M.half0,
      laid-append 1 p.words (link_words q.into i w) M.half1,
      end,
      two,
      one,
      here,
      link,
    )

-- ---- the references of a link's words, in halves of the lengths that are allowed

place-small : {s : Store} → InRange s → (v j : ℕ) → Has s.memory v j → v + 2 * j ≤ most_word
unfolding word_of
place-small {s} k v j i =
    let e = ap length (half_any s.memory.half0 s.memory.half1 s.memory.frontier0 s.memory.frontier1 (half_of v)) in
    omega (arith, i.below, half-small k (half_of v), e)

place_or : {s : Store} → InRange s → (v j : ℕ) → 2 * j ≤ most_word → ((v ≡ 0 → ⊥) → Has s.memory v j) → v + 2 * j ≤ most_word
place_or k v j l i = eq_or v 0 (λ e. omega arith) (λ n. place-small k v j (i n))

placeable : {s : Store} {i v : ℕ} {w : Writes} → Storable s i v w → Placeable v i w
placeable {s} {i} {v} {w} k =
    let own = place-small k.known v (ref_field i) k.own in
    record {
      first = place_or k.known w.first colour_at (omega arith) (λ n. (k.shaded.0 n).0);
      second = place_or k.known w.second colour_at (omega arith) (λ n. (k.shaded.1 n).0);
      own = own;
      replica = place_or k.known w.replica (ref_field i) (omega (arith, own)) k.copy;
    }

-- the entries of a record
entry-few : (v : ℕ) → length (entry_of v) ≤ 1
entry-few v = by_null (eqb v null)
  where
    by_null : (b : Bool) → length (cond b [] (v ∷ [])) ≤ 1
    by_null true = omega arith
    by_null false = omega arith

entry_none : (v : ℕ) → v ≡ null → length (entry_of v) ≡ 0
entry_none v e = rw (eq-eqb v null e)

-- ---- a link planned after others

module _ (c : Control) (p : LinkWrites) (h0 h1 l : List ℕ) (n k i from : ℕ) {q : StorePlan}
    (e : passed q ≡ store_plan (view_with (tailed c (c.cursor.tail + length p.entries)) p.words h0 h1 l) n k i from) where
  plan : passed q ≡ store_plan (with_pending (view c h0 h1 l) p) n k i from
  plan = e ∙ sym (plan_after c p h0 h1 l n k i from)

  stored : Storable (with_pending (view c h0 h1 l) p) i q.into q.writes
  stored = storable (with_pending (view c h0 h1 l) p) n k i from plan

  pub link_placeable : Placeable q.into i q.writes
  link_placeable = placeable stored

  pub link_stored : store (with_pending (view c h0 h1 l) p) n k i from ≡ done (with_pending (view c h0 h1 l) (with_link p q i))
  unfolding store
  link_stored = rw (← plan) (ap done (commit_with (view c h0 h1 l) p q i stored))

  pub link_listed : Listed c (with_link p q i) l
  link_listed =
      let w = q.writes in
      let u = stored in
      let f = length-append p.entries (entry_of w.first) in
      let g = length-append (p.entries ++ entry_of w.first) (entry_of w.second) in
      let long = length-sets l c.cursor.tail p.entries in
      eq_or w.second null
      (λ z. eq_or w.first null
      (λ t. omega (arith, entry_none w.first t, entry_none w.second z, u.known.ends, u.known.lent2))
      (λ t. omega (arith, entry-few w.first, entry_none w.second z, (u.shaded.0 t).1)))
      (λ z. omega (arith, entry-few w.first, entry-few w.second, (u.shaded.1 z).1))

-- ---- one link after another, by a control record in which the list's end has moved

module _ (c b : Control) (p : LinkWrites) (h0 h1 l : List ℕ) (n k i from : ℕ) (m : b ≡ tailed c b.cursor.tail) where
  pub plan_moved : store_plan (view_with (tailed b (c.cursor.tail + length p.entries)) p.words h0 h1 l) n k i from
      ≡ store_plan (view_with (tailed c (c.cursor.tail + length p.entries)) p.words h0 h1 l) n k i from
  plan_moved = ap (λ (x : Control). store_plan (view_with (tailed x (c.cursor.tail + length p.entries)) p.words h0 h1 l) n k i from) m

module _ (s : Store) (n k i : ℕ) (xs : List Link) (none : Link) (here : i < length xs) where
  abbrev next : Link
  next = get_or xs i none

  -- the next one is refused
  pub each_refused : {r : ℕ} → refused r ≡ store_plan s n k next.field next.from → refused r ≡ store_each s n k (drop i xs)
  unfolding store
  each_refused e = rw (drop_more xs i none here, ← e)

  -- the next one is stored
  pub each_on : {t : Store} → store s n k next.field next.from ≡ done t → store_each s n k (drop i xs) ≡ store_each t n k (drop (i + 1) xs)
  each_on e = rw (drop_more xs i none here, e)
