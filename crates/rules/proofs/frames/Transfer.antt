-- Over a frame, the groups of the invariant that speak of values, each with the words that it needs kept.
use Prim.Native.Nat.{ℕ, ◌+◌, ◌≤◌, ◌<◌}
use mathlib.Core.Path.{◌≡◌, refl, sym, ◌∙◌}
use mathlib.Core.Logic.{◌≢◌}
use mathlib.Core.List.{List}
use Rattle.rules.specs.Memory.{Memory, null, refs, plains, replica}
use Rattle.rules.specs.Phases.{other_half}
use Rattle.rules.specs.Free.{Record, FreeSession}
use Rattle.rules.specs.declared.Session.{Session}
use Rattle.rules.proofs.memory.Total.{total_equal}
use Rattle.rules.proofs.invariant.Stages.{st_stack_flip}
use Rattle.rules.proofs.invariant.Words.{In, copied}
use Rattle.rules.proofs.invariant.Groups.{Identity, Values, Roots, FieldHalves, Pair, Pairs, Copied, Agreement}
use Rattle.rules.proofs.invariant.Pairs.{pair_other}
use Rattle.rules.proofs.invariant.Carried.{Within, identity_carried, values_carried, roots_carried}
use Rattle.rules.proofs.invariant.Counted.{copied_same}
use Rattle.rules.proofs.frames.Frame.{Frame}
use Rattle.rules.proofs.frames.Change.{refs-kept, plains-kept, size-kept}
use Rattle.rules.proofs.frames.Kept.{ReplicasSame, BirthsSame, RefsSame, PlainsSame, in_back, ok_to, fwd_kept}

module _ {M M' : Memory} {Q : ℕ → ℕ → Type 0} (F : Frame M M' Q) where
  within : Within M M'
  within = record { back = F.back; refs = λ t. refs-kept F (F.back t); plains = λ t. plains-kept F (F.back t) }

  -- shapes and birth numbers
  pub identity_kept : {m : ℕ → ℕ} {rs : List Record} → BirthsSame M M' → Identity M m rs → Identity M' m rs
  identity_kept same g = identity_carried within same g

  -- the fields of the current half
  pub values-kept : {m : ℕ → ℕ} {cur : ℕ} {rs : List Record} → RefsSame M M' cur → PlainsSame M M' cur → Values M m cur rs → Values M' m cur rs
  values-kept same plain g = values_carried within same (λ v i t l. ok_to F (g.ok v i t l)) plain g

  -- records alone
  pub roots_kept : {m : ℕ → ℕ} {xs : List Session} {ys : List FreeSession} {gs fgs : List ℕ} → Roots M m xs ys gs fgs → Roots M' m xs ys gs fgs
  roots_kept g = roots_carried (λ n k. ok_to F (g.reg_ok n k)) (λ k. ok_to F (g.global_ok k)) (λ u o. refl) g

  -- reference fields, those of the other half up to StackFlip
  pub field_halves_kept : {cur st : ℕ} → RefsSame M M' cur → (st ≤ st_stack_flip → RefsSame M M' (other_half cur)) → FieldHalves M cur st → FieldHalves M' cur st
  field_halves_kept same away g = record {
    home = λ a v i t l. let q = in_back F t in let z : i < refs M v = rw (refs-kept F q.start) at l in
        rw (same v i q z) (g.home a v i q z);
    away = λ e v i t l. let q = in_back F t in let z : i < refs M v = rw (refs-kept F q.start) at l in
        rw (away e v i q z) (g.away e v i q z);
    away_ok = λ e v i t l. let q = in_back F t in let z : i < refs M v = rw (refs-kept F q.start) at l in
        rw (away e v i q z) (ok_to F (g.away_ok e v i q z));
  }

  -- replica words
  pair_kept : {m : ℕ → ℕ} {v w : ℕ} → ReplicasSame M M' → Pair M m v w → Pair M' m v w
  pair_kept r p = record {
    start = F.to p.start;
    across = p.across;
    back = r _ p.start ∙ p.back;
    same = p.same;
  }

  pub pairs-kept : {m : ℕ → ℕ} {cur st : ℕ} → cur < 2 → ReplicasSame M M' → Pairs M m cur st → Pairs M' m cur st
  pairs-kept {m} {cur} two r g = record {
    pair = λ v t n. let a = in_back F t in let e = r v a.start in
        rw e (pair_kept r (g.pair v a (λ z. n (e ∙ z))));
    home = λ l v t. let a = in_back F t in let q = g.home l v a in let e = r v a.start in
        ((λ z. q.0 (sym e ∙ z)), rw e (pair_kept r q.1));
    empty = λ l. F.front (other_half cur) ∙ g.empty l;
    spent = λ l. F.front (other_half cur) ∙ g.spent l
        ∙ sym (F.totals cur two (copied M') ∙ total_equal M two (copied M') (copied M) (λ v t side. copied_same M M' v (r v t) (size-kept F t)));
  }

  -- replica words, and fields in both halves
  pub agreement_kept : {m : ℕ → ℕ} {rs : List Record} {cur st place wf : ℕ} → cur < 2 → Values M m cur rs → Pairs M m cur st → ReplicasSame M M'
      → RefsSame M M' cur → RefsSame M M' (other_half cur) → PlainsSame M M' cur → PlainsSame M M' (other_half cur)
      → ((v : ℕ) → In M cur v → replica M v ≢ null → (refs M (replica M v) ≡ refs M v) × (plains M (replica M v) ≡ plains M v))
      → Agreement M cur st place wf → Agreement M' cur st place wf
  agreement_kept {m} {rs} {cur} {st} {place} {wf} two vs ps r here there plain plain_there shape g = record {
    refs_agree = λ lo hi v i t n l c.
        let a = in_back F t in
        let e = r v a.start in
        let z : i < refs M v = rw (refs-kept F a.start) at l in
        let x : replica M v ≢ null = λ y. n (e ∙ y) in
        let o = pair_other two ps a x in
        rw (e, there (replica M v) i o (rw (shape v a x).0 z), here v i a z, fwd_kept F r (other_half cur) (vs.ok v i a z))
        (g.refs_agree lo hi v i a x z c);
    plains_agree = λ lo hi v i t n l c.
        let a = in_back F t in
        let e = r v a.start in
        let z : i < plains M v = rw (plains-kept F a.start) at l in
        let x : replica M v ≢ null = λ y. n (e ∙ y) in
        let o = pair_other two ps a x in
        let d : Copied st place wf v (refs M v + i) = rw (refs-kept F a.start) at c in
        rw (e, plain_there (replica M v) i o (rw (shape v a x).1 z), plain v i a z) (g.plains_agree lo hi v i a x z d);
  }
