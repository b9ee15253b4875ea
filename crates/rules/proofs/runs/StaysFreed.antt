-- What a collection has freed takes up no word ever after. A call keeps the invariant whatever the places of references that name
-- no record, so from the end of the collection on the run is followed with 0 for these. Then every place is 0 or one to be kept,
-- since a call gives only the place of the walked reference or one to come; and by the invariant no record has place 0.
use Prim.Native.Nat.{ℕ, suc, ◌<◌}
use mathlib.Core.Path.{◌≡◌, refl, sym}
use mathlib.Core.Bool.{Bool, true, false, cond}
use mathlib.Core.List.{List, [], ◌∷◌, Memᴰ}
use native.Mathlib.Nat.{le_refl}
use native.Mathlib.Omega.{arith}
use lib.Dec.{ltb, eqb}
use lib.ListN.{length}
use Rattle.rules.specs.Memory.{Memory, frontier, next_reference}
use Rattle.rules.specs.Collector.{walked}
use Rattle.rules.specs.Runs.{Call, Step, after, is_allocation, apply}
use Rattle.rules.specs.Tracking.{Beside, update, track_half, track, beside_call, beside}
use Rattle.rules.specs.Claims.{Living, places_in}
use Rattle.rules.proofs.memory.Records.{Start}
use Rattle.rules.proofs.memory.Decided.{start_decided}
use Rattle.rules.specs.Cycle.{at_rest}
use Rattle.rules.proofs.invariant.Words.{Ok, ok_null, ok_start}
use Rattle.rules.proofs.invariant.Places.{placed_sim}
use Rattle.rules.proofs.runs.Call.{one_call}
use Rattle.rules.proofs.runs.Runs.{Holds, run_holds, beside-store}
use Rattle.rules.proofs.runs.Freed.{AllKept, all_listed, ended-kept, living_run}

-- ---- places n that are 0, or else those of m and in K

data KeptOrZero (K : ℕ → Type 0) (q p : ℕ) : Type 0 where
  is_zero : p ≡ 0 → KeptOrZero K q p
  is-kept : p ≡ q → K q → KeptOrZero K q p

abbrev Fewer : (ℕ → Type 0) → (ℕ → ℕ) → (ℕ → ℕ) → Type 0
Fewer K m n = (u : ℕ) → KeptOrZero K (m u) (n u)

module _ {K : ℕ → Type 0} {m n : ℕ → ℕ} (few : Fewer K m n) {q p : ℕ} (new : KeptOrZero K q p) where
  update_fewer : (v : ℕ) → Fewer K (update m v q) (update n v p)
  unfolding update
  update_fewer v u = pick (eqb u v)
    where
      pick : (b : Bool) → KeptOrZero K (cond b q (m u)) (cond b p (n u))
      pick true = new
      pick false = few u

  half_fewer : (M M' : Memory) (h : ℕ) → Fewer K (track_half M M' h q m) (track_half M M' h p n)
  unfolding track_half
  half_fewer M M' h u = pick (ltb (frontier M h) (frontier M' h))
    where
      pick : (b : Bool) → KeptOrZero K (cond b (update m (next_reference M h) q) m u) (cond b (update n (next_reference M h) p) n u)
      pick true = update_fewer (next_reference M h) u
      pick false = few u

-- ---- a run b followed with places n

abbrev following : Beside → (ℕ → ℕ) → Beside
following b n = record { store = b.store; free = b.free; place = n }

module _ {K : ℕ → Type 0} (b : Beside) {n : ℕ → ℕ} (h : Holds K (following b n)) (few : Fewer K b.place n) where
  call_fewer : (c : Call) → Fewer K (track b c) (track (following b n) c)
  unfolding track
  call_fewer c =
      let M = b.store.memory in
      let M' = (apply b.store c).store.memory in
      let q = new (is_allocation c) in
      half_fewer (half_fewer few q M M' 1) q M M' 0
    where
      -- the place that the call gives
      new : (a : Bool) → KeptOrZero K (cond a (suc (length b.free.records)) (b.place (walked b.store))) (cond a (suc (length b.free.records)) (n (walked b.store)))
      new true = is-kept refl (h.kept.to_come (suc (length b.free.records)) (le_refl _))
      new false = few (walked b.store)

  all-kept : AllKept K b
  all-kept v t = pick (few v)
    where
      pick : KeptOrZero K (b.place v) (n v) → K (b.place v)
      pick (is_zero z) = absurd (omega (arith, h.identity.low v t))
      pick (is-kept e k) = k

run-kept : {K : ℕ → Type 0} (b : Beside) {n : ℕ → ℕ} → Holds K (following b n) → Fewer K b.place n → (es : List Call) → AllKept K (beside b es)
run-kept b h few [] = all-kept b h few
run-kept b {n} h few (c ∷ cs) = run-kept (beside_call b c) (one_call (following b n) h c).sim (call_fewer b h few c) cs

-- ---- once every record has a place in K, it is so after any calls: followed with the places of the records that are there alone

place_if : {A : Type 0} → Dec A → ℕ → ℕ
place_if (yes t) q = q
place_if (no d) q = 0

module _ {K : ℕ → Type 0} (e : Beside) (h : Holds K e) where
  abbrev M : Memory
  M = e.store.memory

  abbrev here : ℕ → ℕ
  here u = place_if (start_decided M u) (e.place u)

  here-same : (u : ℕ) → Ok M u → here u ≡ e.place u
  unfolding place_if
  here-same u o = pick (start_decided M u) o
    where
      pick : (d : Dec (Start M u)) → Ok M u → place_if d (e.place u) ≡ e.place u
      pick (yes t) o = refl
      pick (no d) (ok_start t) = absurd (d t)
      pick (no d) (ok_null z) = rw z (sym h.identity.null-place)

  here_fewer : AllKept K e → Fewer K e.place here
  unfolding place_if
  here_fewer all u = pick (start_decided M u)
    where
      pick : (d : Dec (Start M u)) → KeptOrZero K (e.place u) (place_if d (e.place u))
      pick (yes t) = is-kept refl (all u t)
      pick (no d) = is_zero refl

  stays_kept : AllKept K e → (es : List Call) → AllKept K (beside e es)
  stays_kept all es = run-kept e (placed_sim h here-same) (here_fewer all) es

pub freed_after : {K : ℕ → Type 0} (b : Beside) → Holds K b → b.store.phase ≡ at_rest → (ds : List Call) → (after b.store (Step ∷ ds)).phase ≡ at_rest
    → (es : List Call) (h : ℕ) → h < 2 → (q : ℕ) → Memᴰ q (places_in (beside (beside b (Step ∷ ds)) es) h) → Living b.free q
freed_after b k z ds back es h two q i =
    let e = beside b (Step ∷ ds) in
    let living : Holds (Living b.free) e = living_run b k z ds in
    all_listed (run_holds e living es) (stays_kept e living (ended-kept living (rw (beside-store b (Step ∷ ds)) back)) es) two q i
