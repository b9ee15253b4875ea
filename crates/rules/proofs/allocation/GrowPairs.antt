-- New records: pairs and their agreement.
use Prim.Native.Nat.{ℕ, ◌+◌, ◌≤◌, ◌<◌}
use mathlib.Core.Path.{◌≡◌, sym, ◌∙◌}
use mathlib.Core.Logic.{◌≢◌}
use mathlib.Core.List.{List}
use native.Mathlib.Omega.{arith}
use Rattle.rules.specs.Memory.{Memory, null, replica, refs, plains}
use Rattle.rules.specs.Phases.{other_half}
use Rattle.rules.specs.Free.{Record}
use Rattle.rules.proofs.memory.Cases.{either}
use Rattle.rules.proofs.memory.Records.{Start, start_nonnull}
use Rattle.rules.proofs.invariant.Stages.{st_copy, st_stack_flip}
use Rattle.rules.proofs.invariant.Words.{In, Ok, field, plain_of, fwd}
use Rattle.rules.proofs.invariant.Groups.{Identity, Values, Pair, Pairs, Copied, Agreement}
use Rattle.rules.proofs.invariant.Laws.{fwd_null}
use Rattle.rules.proofs.invariant.Pairs.{pair_shape}
use Rattle.rules.proofs.invariant.Carried.{fwd_carried}
use Rattle.rules.proofs.allocation.Grown.{Grown, grown-refs, grown-plains, grown-field, grown_plain, new_ref, new_plain, old_or_new}
use Rattle.rules.proofs.allocation.Growth.{Placed, Joined}

module _ {M M' : Memory} {New Re : ℕ → Type 0} (g : Grown M M' New Re)
    {m m' : ℕ → ℕ} {cur st q : ℕ} {rs rs' : List Record} (p : Placed M M' New m m' cur q rs rs') (j : Joined M M' New Re m' cur st) where
  -- a pair of old records stays one
  carry : {v w : ℕ} → Start M v → Pair M m v w → Pair M' m' v w
  carry {v} {w} t k = record {
    start = g.to k.start;
    across = k.across;
    back = either (g.same-replica k.start) (λ e. e ∙ k.back) (λ r. absurd (start_nonnull t (sym k.back ∙ j.before r)));
    same = p.old k.start ∙ k.same ∙ sym (p.old t);
  }

  pub grown-pairs : Pairs M m cur st → Pairs M' m' cur st
  grown-pairs k = record {
    pair = λ v t d. old_or_new g t
        (λ o. either (g.same-replica o.start)
        (λ e. rw e (carry o.start (k.pair v o (λ z. d (e ∙ z)))))
        (λ r. j.old_pair r))
        (λ n side. j.new_pair n d);
    home = λ a v t. old_or_new g t
        (λ o. either (g.same-replica o.start)
        (λ e. let x = k.home a v o in ((λ z. x.0 (sym e ∙ z)), rw e (carry o.start x.1)))
        (λ r. (j.after r, j.old_pair r)))
        (λ n side. (j.home a n side, j.new_pair n (j.home a n side)));
    empty = j.empty;
    spent = j.spent;
  }

  -- the replica word of a record stays after Allocate
  replica-kept : st_copy ≤ st → {u : ℕ} → Start M u → replica M' u ≡ replica M u
  replica-kept a t = either (g.same-replica t) (λ e. e) (λ r. absurd (omega (arith, j.early r)))

  fwd_kept : st_copy ≤ st → (to : ℕ) {u : ℕ} → Ok M u → fwd M' to u ≡ fwd M to u
  fwd_kept a to o = fwd_carried M' to (replica-kept a) o

  pub grown_agreement : {place wf : ℕ} → Identity M m rs → Values M m cur rs → Pairs M m cur st → Agreement M cur st place wf → Agreement M' cur st place wf
  grown_agreement {place} {wf} i k ps a = record { refs_agree = fields_agree; plains_agree = words_agree }
    where
      fields_agree : st_copy ≤ st → st ≤ st_stack_flip → (v n : ℕ) → In M' cur v → replica M' v ≢ null → n < refs M' v → Copied st place wf v n
          → field M' (replica M' v) n ≡ fwd M' (other_half cur) (field M' v n)
      fields_agree lo hi v n t d b c = old_or_new g t
          (λ o.
          let e = replica-kept lo o.start in
          let d' : replica M v ≢ null = λ z. d (e ∙ z) in
          let x = ps.pair v o d' in
          let b' : n < refs M v = rw (grown-refs g o.start) at b in
          let b'' : n < refs M (replica M v) = rw (pair_shape i o.start x).0 b' in
          rw (e, grown-field g x.start n b'', grown-field g o.start n b', fwd_kept lo (other_half cur) (k.ok v n o b')) (a.refs_agree lo hi v n o d' b' c))
          (λ w side.
          let w' = j.closed lo w d in
          let b' : n < refs M' (replica M' v) = rw (← p.nrefs w', p.nrefs w) b in
          rw (new_ref g w n b, new_ref g w' n b', fwd_null M' (other_half cur)))

      words_agree : st_copy ≤ st → st ≤ st_stack_flip → (v n : ℕ) → In M' cur v → replica M' v ≢ null → n < plains M' v → Copied st place wf v (refs M' v + n)
          → plain_of M' (replica M' v) n ≡ plain_of M' v n
      words_agree lo hi v n t d b c = old_or_new g t
          (λ o.
          let e = replica-kept lo o.start in
          let d' : replica M v ≢ null = λ z. d (e ∙ z) in
          let x = ps.pair v o d' in
          let b' : n < plains M v = rw (grown-plains g o.start) at b in
          let b'' : n < plains M (replica M v) = rw (pair_shape i o.start x).1 b' in
          rw (e, grown_plain g x.start n b'', grown_plain g o.start n b') (a.plains_agree lo hi v n o d' b' (rw (grown-refs g o.start) at c)))
          (λ w side.
          let w' = j.closed lo w d in
          let b' : n < plains M' (replica M' v) = rw (← p.nplains w', p.nplains w) b in
          rw (new_plain g w n b, new_plain g w' n b'))
