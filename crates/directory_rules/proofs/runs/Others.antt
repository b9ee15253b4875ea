-- Calls of other sessions keep what the directory carries.
use Prim.Native.Nat.{ℕ}
use mathlib.Core.Path.{◌≡◌, refl}
use mathlib.Core.Logic.{◌≢◌}
use mathlib.Core.Bool.{Bool, true, false, cond, not, ◌&&◌}
use mathlib.Core.List.{List, [], ◌∷◌}
use lib.Dec.{leb, ltb, eqb}
use lib.ListN.{length, take}
use borrow.Author.Tests.{eqb-false, not-true}
use Rattle.rules.specs.Memory.{null}
use Rattle.rules.specs.Control.{last_session, register_count}
use Rattle.rules.specs.Refusals.{Tested, passed, check, ◌>>=◌, ◌>>◌, Outcome}
use Rattle.rules.specs.Calls.{is_register, is_global, is_shape, is_count, number_left}
use Rattle.rules.specs.Runs.{Call, Attach, Detach, SafePoint, Allocate, Load, StoreRef, StoreLinks, Read, Write, Move, Clear, SameAs, Get, Put, Stretch, Companion, Birth, Step, is_session, Fed}
use Rattle.rules.specs.Free.{Free, FreeSession, record_at, free_session, free_register, free_nobody, fed_share, fed_room, free_session_of, free_record_in, free_attach, free_detach, free_allocate, free_load, free_store, free_store_each, free_store_links, free_read, free_birth, free_write, free_move, free_clear, free_same, free_get, free_put, free_apply}
use Rattle.rules.specs.declared.Link.{Link}
use Rattle.rules.proofs.Ranges.{both}
use Rattle.rules.proofs.memory.Lists.{all_same}
use Rattle.directory_rules.specs.Table.{Table}
use Rattle.directory_rules.specs.Acts.{own_session, own_global}
use Rattle.directory_rules.specs.Runs.{others}
use Rattle.directory_rules.proofs.Lists.{set_holds}
use Rattle.directory_rules.proofs.acts.Ends.{Ends, fails, ends, settled, then_ends, map_ends, after_tests}
use Rattle.directory_rules.proofs.chains.Core.{Owned, Foreign, Apart, Layout, Represents}
use Rattle.directory_rules.proofs.runs.Aside.{Aside, owned_aside, represents_aside}
use Rattle.directory_rules.proofs.runs.Changes.{null_foreign, new_foreign, aside_then, aside_none, aside_session, aside_register, aside_global, aside_record, aside_grown}

-- ---- rows of tests

row_check : {P : Free → Type 0} (b : Bool) (n : ℕ) {t : Tested (Outcome Free)} → Ends P t → Ends P (check b n >> t)
row_check b n {t} k = after_tests (check b n) (λ u. t) (λ u. k)

row_session : {P : Free → Type 0} (f : Free) (n : ℕ) (t : FreeSession → Tested (Outcome Free)) → Ends P (t (free_session f n)) → Ends P (free_session_of f n >>= t)
unfolding free_session_of
row_session {P} f n t k = go (leb n last_session) (free_session f n).attached
  where
    go : (a b : Bool) → Ends P (check a 5 >> (check b 6 >> passed (free_session f n)) >>= t)
    go true true = k
    go true false = fails 6
    go false b = fails 5

row_record : {P : Free → Type 0} (x : FreeSession) (k : ℕ) (t : ℕ → Tested (Outcome Free)) → (free_register x k ≢ null → Ends P (t (free_register x k)))
    → Ends P (free_record_in x k >>= t)
unfolding free_record_in
row_record {P} x k t c = go (eqb (free_register x k) null) (λ e. c (eqb-false (free_register x k) null e))
  where
    go : (b : Bool) → (b ≡ false → Ends P (t (free_register x k))) → Ends P (check (not b) 11 >> passed (free_register x k) >>= t)
    go true d = fails 11
    go false d = d refl

-- ---- the calls

is_other : (n m : ℕ) → not (eqb n m) ≡ true → n ≢ m
is_other n m e = eqb-false n m (not-true (eqb n m) e)

is-others : (n g : ℕ) → (not (eqb n own_session) && not (eqb g own_global)) ≡ true → (n ≢ own_session) × (g ≢ own_global)
is-others n g e = let z = both (not (eqb n own_session)) (not (eqb g own_global)) e in (is_other n own_session z.0, is_other g own_global z.1)

module _ {lab : ℕ → ℕ} {f : Free} (own : Owned f lab) (apart : Apart f lab) where
  abbrev P : Free → Type 0
  P = Aside lab f

  nobody_foreign : (k : ℕ) → Foreign (length f.records) lab (free_register free_nobody k)
  unfolding free_register
  nobody_foreign k = all_same (Foreign (length f.records) lab) null null (null_foreign own) (null_foreign own) register_count k

  module _ (n : ℕ) (other : n ≢ own_session) where
    -- the record in a register
    abbrev at : ℕ → ℕ
    at k = free_register (free_session f n) k

    attach_aside : Ends P (free_attach f n)
    unfolding free_attach free_register
    attach_aside = row_check (leb n last_session) 5 (row_check (not (free_session f n).attached) 7 (ends _ (aside_session apart n _ other nobody_foreign)))

    detach_aside : Ends P (free_detach f n)
    unfolding free_detach
    detach_aside = row_session f n _ (ends _ (aside_session apart n _ other nobody_foreign))

    allocate_aside : (k r p : ℕ) (fed : Fed) → Ends P (free_allocate f n k r p fed)
    unfolding free_allocate
    allocate_aside k r p fed =
        let g = aside_grown apart own r p in
        row_session f n _ (row_check (is_register k) 8 (row_check (is_shape r p) 10 (row_check (fed_share fed) 17 (row_check (fed_room fed) 14
        (row_check (number_left (length f.records)) 16 (ends _ (aside_then g (aside_register g.apart n k _ other (new_foreign own _)))))))))

    load_aside : (to k i : ℕ) → Ends P (free_load f n to k i)
    unfolding free_load
    load_aside to k i = row_session f n _ (row_check (is_register to && is_register k) 8 (row_record (free_session f n) k _ (λ some. row_check (ltb i (length (record_at f (at k)).refs)) 13
        (ends _ (aside_register apart n to _ other (apart.fields _ i some (apart.registers n k other).label))))))

    store_aside : (k i from : ℕ) → Ends P (free_store f n k i from)
    unfolding free_store
    store_aside k i from = row_session f n _ (row_check (is_register k && is_register from) 8 (row_record (free_session f n) k _ (λ some. row_check (ltb i (length (record_at f (at k)).refs)) 13
        (ends _ (aside_record apart own _ _ some (apart.registers n k other).label
        (λ j. set_holds (Foreign (length f.records) lab) (record_at f (at k)).refs i _ null j (apart.registers n from other) (apart.fields _ j some (apart.registers n k other).label)))))))

    read_aside : (k i : ℕ) → Ends P (free_read f n k i)
    unfolding free_read
    read_aside k i = row_session f n _ (row_check (is_register k) 8 (row_record (free_session f n) k _ (λ some. row_check (ltb i (length (record_at f (at k)).plains)) 13 (ends _ (aside_none apart)))))

    birth_aside : (k : ℕ) → Ends P (free_birth f n k)
    unfolding free_birth
    birth_aside k = row_session f n _ (row_check (is_register k) 8 (row_record (free_session f n) k _ (λ some. ends _ (aside_none apart))))

    write_aside : (k i a : ℕ) → Ends P (free_write f n k i a)
    unfolding free_write
    write_aside k i a = row_session f n _ (row_check (is_register k) 8 (row_record (free_session f n) k _ (λ some. row_check (ltb i (length (record_at f (at k)).plains)) 13
        (ends _ (aside_record apart own _ _ some (apart.registers n k other).label (λ j. apart.fields _ j some (apart.registers n k other).label))))))

    move_aside : (to from : ℕ) → Ends P (free_move f n to from)
    unfolding free_move
    move_aside to from = row_session f n _ (row_check (is_register to && is_register from) 8 (ends _ (aside_register apart n to _ other (apart.registers n from other))))

    clear_aside : (k : ℕ) → Ends P (free_clear f n k)
    unfolding free_clear
    clear_aside k = row_session f n _ (row_check (is_register k) 8 (ends _ (aside_register apart n k null other (null_foreign own))))

    same_aside : (a b : ℕ) → Ends P (free_same f n a b)
    unfolding free_same
    same_aside a b = row_session f n _ (row_check (is_register a && is_register b) 8 (ends _ (aside_none apart)))

    get_aside : (to g : ℕ) → g ≢ own_global → Ends P (free_get f n to g)
    unfolding free_get
    get_aside to g d = row_session f n _ (row_check (is_register to) 8 (row_check (is_global g) 9 (ends _ (aside_register apart n to _ other (apart.globals g d)))))

    put_aside : (g from : ℕ) → g ≢ own_global → Ends P (free_put f n g from)
    unfolding free_put
    put_aside g from d = row_session f n _ (row_check (is_register from) 8 (row_check (is_global g) 9 (ends _ (aside_global apart g _ d (apart.registers n from other)))))

-- stores of several links, one after the other
links_aside : {lab : ℕ → ℕ} {f : Free} → Owned f lab → Apart f lab → (n : ℕ) → n ≢ own_session → (k : ℕ) (xs : List Link) → Ends (Aside lab f) (free_store_each f n k xs)
links_aside own apart n other k [] = ends _ (aside_none apart)
links_aside own apart n other k (x ∷ xs) = then_ends _ (store_aside own apart n other k x.field x.from)
    (λ o a. map_ends (λ g. aside_then a) (links_aside (owned_aside own a) a.apart n other k xs))

module _ {lab : ℕ → ℕ} {f : Free} (own : Owned f lab) (apart : Apart f lab) where
  store_links_aside : (n : ℕ) → n ≢ own_session → (k count : ℕ) (xs : List Link) → Ends (P own apart) (free_store_links f n k count xs)
  unfolding free_store_links
  store_links_aside n other k count xs = row_session f n _ (row_check (is_count count) 10 (links_aside own apart n other k (take count xs)))

  -- every call that names neither the directory's session nor its global
  others_aside : (c : Call) (fed : Fed) → others c ≡ true → P own apart (cond (is_session c) (free_apply f c fed).store f)
  others_aside (Attach n share) fed e = settled f (attach_aside own apart n (is_other n own_session e)) (aside_none apart)
  others_aside (Detach n) fed e = settled f (detach_aside own apart n (is_other n own_session e)) (aside_none apart)
  others_aside (SafePoint n) fed e = aside_none apart
  others_aside (Allocate n k r p) fed e = settled f (allocate_aside own apart n (is_other n own_session e) k r p fed) (aside_none apart)
  others_aside (Load n to k i) fed e = settled f (load_aside own apart n (is_other n own_session e) to k i) (aside_none apart)
  others_aside (StoreRef n k i from) fed e = settled f (store_aside own apart n (is_other n own_session e) k i from) (aside_none apart)
  others_aside (StoreLinks n k count xs) fed e = settled f (store_links_aside n (is_other n own_session e) k count xs) (aside_none apart)
  others_aside (Read n k i) fed e = settled f (read_aside own apart n (is_other n own_session e) k i) (aside_none apart)
  others_aside (Write n k i a) fed e = settled f (write_aside own apart n (is_other n own_session e) k i a) (aside_none apart)
  others_aside (Move n to from) fed e = settled f (move_aside own apart n (is_other n own_session e) to from) (aside_none apart)
  others_aside (Clear n k) fed e = settled f (clear_aside own apart n (is_other n own_session e) k) (aside_none apart)
  others_aside (SameAs n a b) fed e = settled f (same_aside own apart n (is_other n own_session e) a b) (aside_none apart)
  others_aside (Get n to g) fed e = let z = is-others n g e in settled f (get_aside own apart n z.0 to g z.1) (aside_none apart)
  others_aside (Put n g from) fed e = let z = is-others n g e in settled f (put_aside own apart n z.0 g from z.1) (aside_none apart)
  others_aside (Stretch n k) fed e = aside_none apart
  others_aside (Companion n k) fed e = aside_none apart
  others_aside (Birth n k) fed e = settled f (birth_aside own apart n (is_other n own_session e) k) (aside_none apart)
  others_aside Step fed e = aside_none apart

pub others-kept : {f : Free} {y : Layout} {t : Table} (c : Call) (fed : Fed) → others c ≡ true → Represents f y t
    → Represents (cond (is_session c) (free_apply f c fed).store f) y t
others-kept c fed e r = represents_aside r (others_aside r.core.store.own r.core.store.apart c fed e)
