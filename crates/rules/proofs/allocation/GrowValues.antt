-- New records: identity, values, roots, halves of fields.
use Prim.Native.Nat.{ℕ, ◌<◌}
use mathlib.Core.Path.{◌≡◌, sym, ◌∙◌}
use mathlib.Core.List.{List}
use native.Mathlib.Omega.{arith}
use lib.ListN.{get_or, length, get_or-eq_default}
use Rattle.rules.specs.Memory.{Memory, null, half_of, refs}
use Rattle.rules.specs.Free.{Record, FreeSession, no_record}
use Rattle.rules.specs.declared.Session.{Session}
use Rattle.rules.proofs.memory.Cases.{either}
use Rattle.rules.proofs.invariant.Words.{In, Ok, ok_null, ok_start, Names, field, rec_of}
use Rattle.rules.proofs.invariant.Groups.{Identity, Values, Roots, FieldHalves}
use Rattle.rules.proofs.invariant.Carried.{roots_carried}
use Rattle.rules.proofs.allocation.Grown.{Grown, grown-birth, grown-refs, grown-plains, grown-field, grown_plain, new_ref, new_plain, grown_ok, old_or_new}
use Rattle.rules.proofs.allocation.Growth.{Longer, Placed}

-- a place past the last has no record
past_last : (rs : List Record) (q : ℕ) → length rs < q → rec_of rs q ≡ no_record
past_last rs q l = get_or-eq_default rs no_record (omega arith)

module _ {M M' : Memory} {New Re : ℕ → Type 0} (g : Grown M M' New Re)
    {m m' : ℕ → ℕ} {cur q : ℕ} {rs rs' : List Record} (l : Longer rs rs') (p : Placed M M' New m m' cur q rs rs') where
  pub grown_identity : Identity M m rs → Identity M' m' rs'
  grown_identity i = record {
    null-place = p.none ∙ i.null-place;
    low = λ v t. either (g.split t) (λ o. rw (p.old o) (i.low v o)) (λ n. rw (p.new n) p.low);
    high = λ v t. either (g.split t) (λ o. rw (p.old o) (omega (arith, i.high v o, l.more))) (λ n. rw (p.new n) p.high);
    born = λ v t. either (g.split t) (λ o. rw (p.old o) (grown-birth g o ∙ i.born v o)) (λ n. rw (p.new n) (p.born n));
    nrefs = λ v t. either (g.split t)
        (λ o. rw (p.old o, l.old (m v) (i.low v o) (i.high v o), grown-refs g o) (i.nrefs v o))
        (λ n. rw (p.new n) (p.nrefs n));
    nplains = λ v t. either (g.split t)
        (λ o. rw (p.old o, l.old (m v) (i.low v o) (i.high v o), grown-plains g o) (i.nplains v o))
        (λ n. rw (p.new n) (p.nplains n));
    apart = λ v w t t' e d. either (g.split t)
        (λ o. either (g.split t')
        (λ o'. i.apart v w o o' e (sym (p.old o) ∙ d ∙ p.old o'))
        (λ n. absurd (p.apart n o e (sym (p.old o) ∙ d ∙ p.new n))))
        (λ n. either (g.split t')
        (λ o'. absurd (p.apart n o' (sym e) (sym (p.old o') ∙ sym d ∙ p.new n)))
        (λ n'. p.single n' n e));
  }

  -- the place of a word that is null or an old record
  place_kept : {u : ℕ} → Ok M u → m' u ≡ m u
  place_kept (ok_null e) = rw e p.none
  place_kept (ok_start t) = p.old t

  -- fields of a place that is new are null
  blank_refs : {u : ℕ} → New u → half_of u ≡ cur → (i : ℕ) → get_or (rec_of rs' (m' u)).refs i null ≡ null
  blank_refs n side i = rw (p.new n, l.refs q i, past_last rs q (p.fresh n side))

  blank_plains : {u : ℕ} → New u → half_of u ≡ cur → (i : ℕ) → get_or (rec_of rs' (m' u)).plains i 0 ≡ 0
  blank_plains n side i = rw (p.new n, l.plains q i, past_last rs q (p.fresh n side))

  pub grown-values : m null ≡ 0 → Values M m cur rs → Values M' m' cur rs'
  grown-values z k = record {
    ok = λ v i t b. old_or_new g t
        (λ o. let b' = rw (grown-refs g o.start) at b in rw (grown-field g o.start i b') (grown_ok g (k.ok v i o b')))
        (λ n side. ok_null (new_ref g n i b));
    ref = λ v i t b. old_or_new g t
        (λ o. let b' = rw (grown-refs g o.start) at b in
        rw (grown-field g o.start i b', place_kept (k.ok v i o b'), p.old o.start, l.refs (m v) i) (k.ref v i o b'))
        (λ n side. rw (new_ref g n i b) (blank_refs n side i ∙ sym (p.none ∙ z)));
    plain = λ v i t b. old_or_new g t
        (λ o. let b' = rw (grown-plains g o.start) at b in
        rw (grown_plain g o.start i b', p.old o.start, l.plains (m v) i) (k.plain v i o b'))
        (λ n side. rw (new_plain g n i b) (blank_plains n side i));
  }

  pub grown_roots : {xs : List Session} {ys : List FreeSession} {gs fgs : List ℕ} → Roots M m xs ys gs fgs → Roots M' m' xs ys gs fgs
  grown_roots r = roots_carried (λ n k. grown_ok g (r.reg_ok n k)) (λ i. grown_ok g (r.global_ok i)) (λ u o. place_kept o) r

module _ {M M' : Memory} {New Re : ℕ → Type 0} (g : Grown M M' New Re) where
  -- a field names a half as before, or is null
  names_kept : {h cur : ℕ} → ((v i : ℕ) → In M h v → i < refs M v → Names cur (field M v i))
      → (v i : ℕ) → In M' h v → i < refs M' v → Names cur (field M' v i)
  names_kept k v i t b = old_or_new g t
      (λ o. let b' = rw (grown-refs g o.start) at b in rw (grown-field g o.start i b') (k v i o b'))
      (λ n side. λ d. absurd (d (new_ref g n i b)))

  pub grown-field_halves : {cur st : ℕ} → FieldHalves M cur st → FieldHalves M' cur st
  grown-field_halves k = record {
    home = λ a. names_kept (k.home a);
    away = λ a. names_kept (k.away a);
    away_ok = λ a v i t b. old_or_new g t
        (λ o. let b' = rw (grown-refs g o.start) at b in rw (grown-field g o.start i b') (grown_ok g (k.away_ok a v i o b')))
        (λ n side. ok_null (new_ref g n i b));
  }
