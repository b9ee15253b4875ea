-- The ways to write one field: in a record of the current half alone, or in it and its replica, in either order.
use Prim.Native.Nat.{ℕ, ◌≤◌, ◌<◌}
use mathlib.Core.Path.{◌≡◌, refl, sym, ◌∙◌}
use mathlib.Core.Logic.{◌≢◌, inl, inr}
use native.Mathlib.Omega.{arith}
use Rattle.rules.specs.Memory.{Memory, null, word, put, replica, size, header}
use Rattle.rules.specs.Control.{Store}
use Rattle.rules.specs.Cycle.{stage}
use Rattle.rules.specs.Phases.{other_half}
use Rattle.rules.specs.Free.{Free}
use Rattle.rules.proofs.memory.Cases.{either}
use Rattle.rules.proofs.memory.Records.{Start, Filled}
use Rattle.rules.proofs.memory.Put.{put-field}
use Rattle.rules.proofs.invariant.Stages.{st_copy, st_stack_flip}
use Rattle.rules.proofs.invariant.Words.{In}
use Rattle.rules.proofs.invariant.Groups.{Pair}
use Rattle.rules.proofs.invariant.Sim.{Sim}
use Rattle.rules.proofs.invariant.Laws.{in_nonnull}
use Rattle.rules.proofs.invariant.Pairs.{replica-sized}
use Rattle.rules.proofs.frames.Frame.{Frame}
use Rattle.rules.proofs.frames.Change.{put_frame, frame_then, frame_wider, size-kept}
use Rattle.rules.proofs.fields.Write.{Two}

-- ---- the same word of two records

-- M' has word j of a and of b changed, to x and y
pub record BothPut (M M' : Memory) (a b j x y : ℕ) : Type 0 where
  pub frame : Frame M M' (Two a b j)
  pub first : word M' a j ≡ x
  pub second : word M' b j ≡ y

both_put : {M : Memory} → Filled M → {a b : ℕ} → Start M a → Start M b → a ≢ b → (j x y : ℕ) → header ≤ j → j < size M a → j < size M b
    → BothPut M (put (put M a j x) b j y) a b j x y
both_put {M} f {a} {b} s t d j x y p la lb =
    let k = put-field f s j x p la in
    let F = put_frame k (omega arith) in
    let r = put-field k.filled (k.to t) j y p (rw (size-kept F t) lb) in
    record {
      frame = frame_wider (frame_then F (put_frame r (omega arith)))
          (λ v i z. either z (λ q. (q.1, inl q.0)) (λ q. (q.1, inr q.0)))
          (λ v z. let e = z.0 in omega arith);
      first = r.same (k.to s) j (rw (size-kept F s) la) (inl d) ∙ k.new;
      second = r.new;
    }

-- the same change with the records named in the other order
swapped : {M M' : Memory} {a b j x y : ℕ} → BothPut M M' a b j x y → BothPut M M' b a j y x
swapped {j = j} k = record {
  frame = frame_wider k.frame (λ v i z. (z.0, either z.1 (λ e. inr e) (λ e. inl e))) (λ v z. k.frame.shapes v (z.0, either z.1 (λ e. inr e) (λ e. inl e)));
  first = k.second;
  second = k.first;
}

-- ---- the field at word j of v has become u, and that of its replica t, where it is written, y; t is null where it isn't
pub record Written (s : Store) (M' : Memory) (v t j u y : ℕ) : Type 0 where
  pub frame : Frame s.memory M' (Two v t j)
  pub here : In s.memory s.current v
  pub past : header ≤ j
  pub apart : ¬ In s.memory s.current t
  pub paired : stage s.phase ≤ st_stack_flip → In s.memory (other_half s.current) t → replica s.memory t ≡ v
  pub new : word M' v j ≡ u
  pub away : stage s.phase ≤ st_stack_flip → In s.memory (other_half s.current) t → word M' t j ≡ y
  pub copy : st_copy ≤ stage s.phase → stage s.phase ≤ st_stack_flip → replica s.memory v ≢ null → word M' (replica s.memory v) j ≡ y

module _ {K : ℕ → Type 0} {m : ℕ → ℕ} {s : Store} {f : Free} (h : Sim K m s f) {v : ℕ} (q : In s.memory s.current v) (j : ℕ)
    (p : header ≤ j) (l : j < size s.memory v) where
  -- v alone: where it has no replica, or no field need agree
  pub written_alone : (u y : ℕ) → (st_copy ≤ stage s.phase → stage s.phase ≤ st_stack_flip → replica s.memory v ≢ null → ⊥) → Written s (put s.memory v j u) v null j u y
  written_alone u y none =
      let k = put-field h.filled q.start j u p l in
      record {
        frame = frame_wider (put_frame k (omega arith)) (λ a i z. (z.1, inl z.0)) (λ a z. let e = z.0 in omega arith);
        here = q;
        past = p;
        apart = λ t. in_nonnull t refl;
        paired = λ hi t. absurd (in_nonnull t refl);
        new = k.new;
        away = λ hi t. absurd (in_nonnull t refl);
        copy = λ lo hi n. absurd (none lo hi n);
      }

  -- v and its replica, which both have word j
  module _ (n : replica s.memory v ≢ null) where
    t : ℕ
    t = replica s.memory v

    pair : Pair s.memory m v t
    unfolding t
    pair = h.pairs.pair v q n

    sized : j < size s.memory t
    unfolding t
    sized = rw (replica-sized h v q n) l

    apart_t : v ≢ t
    apart_t e = pair.across (rw (← e))

    both : {M' : Memory} {u y : ℕ} → BothPut s.memory M' v t j u y → Written s M' v t j u y
    unfolding t
    both k = record {
      frame = k.frame;
      here = q;
      past = p;
      apart = λ o. pair.across (o.side ∙ sym q.side);
      paired = λ hi o. pair.back;
      new = k.first;
      away = λ hi o. k.second;
      copy = λ lo hi z. k.second;
    }

    -- v first
    pub written_from : (u y : ℕ) → Written s (put (put s.memory v j u) (replica s.memory v) j y) v (replica s.memory v) j u y
    unfolding t
    written_from u y = both (both_put h.filled q.start pair.start apart_t j u y p l sized)

    -- its replica first
    pub written_to : (u y : ℕ) → Written s (put (put s.memory (replica s.memory v) j y) v j u) v (replica s.memory v) j u y
    unfolding t
    written_to u y = both (swapped (both_put h.filled pair.start q.start (λ e. apart_t (sym e)) j y u p sized l))

    -- the replica alone, beside v's word as it is
    pub written_copy : (y : ℕ) → Written s (put s.memory (replica s.memory v) j y) v (replica s.memory v) j (word s.memory v j) y
    unfolding t
    written_copy y =
        let k = put-field h.filled pair.start j y p sized in
        both (record {
          frame = frame_wider (put_frame k (omega arith)) (λ a i z. (z.1, inr z.0)) (λ a z. let e = z.0 in omega arith);
          first = k.same q.start j l (inl apart_t);
          second = k.new;
        })
