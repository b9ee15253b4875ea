-- A record and its replica: the other half, and the same shape.
use Prim.Native.Nat.{ℕ, ◌<◌}
use mathlib.Core.Path.{◌≡◌, sym, ◌∙◌}
use mathlib.Core.Logic.{◌≢◌}
use mathlib.Core.List.{List}
use Rattle.rules.specs.Memory.{Memory, null, half_of, shape_at, word, refs, plains, size, replica}
use Rattle.rules.specs.Control.{Store}
use Rattle.rules.specs.Phases.{other_half}
use Rattle.rules.specs.Free.{Free, Record}
use Rattle.rules.proofs.memory.Encoding.{half-below_2, only_other, shape_same}
use Rattle.rules.proofs.memory.Records.{Start}
use Rattle.rules.proofs.invariant.Words.{In}
use Rattle.rules.proofs.invariant.Groups.{Identity, Pair, Pairs}
use Rattle.rules.proofs.invariant.Sim.{Sim}

-- the replica of a record of half h is in the other one
pub pair_side : {M : Memory} {m : ℕ → ℕ} {h v w : ℕ} → h < 2 → In M h v → Pair M m v w → In M (other_half h) w
pair_side {h = h} {w = w} two t p = record {
  start = p.start;
  side = only_other h (half_of w) two (half-below_2 w) (λ e. p.across (e ∙ sym t.side));
}

pub pair_other : {M : Memory} {m : ℕ → ℕ} {cur st v : ℕ} → cur < 2 → Pairs M m cur st → In M cur v → replica M v ≢ null
    → In M (other_half cur) (replica M v)
pair_other {v = v} two p t n = pair_side two t (p.pair v t n)

-- a record and its replica have as many fields
pub pair_shape : {M : Memory} {m : ℕ → ℕ} {rs : List Record} {v w : ℕ} → Identity M m rs → Start M v → Pair M m v w
    → (refs M w ≡ refs M v) × (plains M w ≡ plains M v)
pair_shape {v = v} {w = w} g t p =
    let e = p.same in
    (sym (g.nrefs w p.start) ∙ rw e (g.nrefs v t), sym (g.nplains w p.start) ∙ rw e (g.nplains v t))

-- and the same word 0
pub pair_word : {M : Memory} {m : ℕ → ℕ} {rs : List Record} {v w : ℕ} → Identity M m rs → Start M v → Pair M m v w
    → word M w shape_at ≡ word M v shape_at
unfolding refs plains
pair_word {M} {v = v} {w = w} g t p = let e = pair_shape g t p in shape_same (word M w shape_at) (word M v shape_at) e.0 e.1

pub replica-shape : {K : ℕ → Type 0} {m : ℕ → ℕ} {s : Store} {f : Free} → Sim K m s f → (v : ℕ) → In s.memory s.current v
    → replica s.memory v ≢ null
    → (refs s.memory (replica s.memory v) ≡ refs s.memory v) × (plains s.memory (replica s.memory v) ≡ plains s.memory v)
replica-shape h v t n = pair_shape h.identity t.start (h.pairs.pair v t n)

pub replica-sized : {K : ℕ → Type 0} {m : ℕ → ℕ} {s : Store} {f : Free} → Sim K m s f → (v : ℕ) → In s.memory s.current v
    → replica s.memory v ≢ null → size s.memory (replica s.memory v) ≡ size s.memory v
unfolding size
replica-sized h v t n = let e = replica-shape h v t n in rw (e.0, e.1)
