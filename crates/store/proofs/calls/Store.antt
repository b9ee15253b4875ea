-- Stores and puts by their plans: what a plan says of the records that it writes.
use Prim.Native.Nat.{ℕ, ◌+◌, ◌≤◌, ◌<◌}
use mathlib.Core.Path.{◌≡◌, ◌∙◌, sym, ap}
use mathlib.Core.Bool.{true}
use native.Mathlib.Omega.{arith}
use lib.Dec.{ltb}
use lib.ListN.{length, get_or}
use borrow.Author.Tests.{leb-true, ltb-true}
use Rattle.rules.specs.Refusals.{passed}
use Rattle.rules.specs.Memory.{refs, sound, ref_field, colour_at}
use Rattle.rules.specs.Control.{Store, last_global}
use Rattle.rules.specs.Phases.{register}
use Rattle.rules.specs.Barriers.{heap_of, store_writes}
use Rattle.rules.specs.declared.StorePlan.{StorePlan}
use Rattle.rules.specs.declared.Writes.{Writes}
use Rattle.rules.specs.Calls.{session_of, is_register, is_global, record_of, store_plan, put_plan}
use Rattle.rules.proofs.Ranges.{InRange, in_session, after_check}
use Rattle.heap.specs.View.{Has}
use Rattle.heap.proofs.Soundness.{header_inside}
use Rattle.heap.proofs.Fields.{ref_inside}
use Rattle.heap.proofs.Passed.{bind_passed, same-passed}
use Rattle.heap.proofs.Plans.{Shadable, Shading, Stored, store-known, put-known}
use Rattle.store.proofs.tests.Opening.{recorded}

-- what shading the records asks for: they lie inside, and the list has room
abbrev pub Listable : Store → Writes → Type 0
Listable s w =
    ((w.first ≡ 0 → ⊥) → Has s.memory w.first colour_at × (s.list.tail < length s.list.words))
    × ((w.second ≡ 0 → ⊥) → Has s.memory w.second colour_at × (s.list.tail + 1 < length s.list.words))

coloured : (s : Store) → InRange s → (v j : ℕ) → Shadable (heap_of s) v j → Has s.memory v colour_at
coloured s k v j d = header_inside _ _ s.memory.frontier0 s.memory.frontier1 v d.sound (omega (arith, k)) (omega (arith, k)) colour_at (omega arith)

listable : (s : Store) (w : Writes) → InRange s → Shading (heap_of s) w.first w.second → Listable s w
listable s w k d = (
  λ n. let x = d.first n in (coloured s k w.first 0 x, omega (arith, x.room)),
  λ n. let x = d.second n in (coloured s k w.second 1 x, x.room),
)

-- a store: it shades records with room in the list, and writes fields of the two copies
pub record Storable (s : Store) (i v : ℕ) (w : Writes) : Type 0 where
  pub known : InRange s
  pub shaded : Listable s w
  pub own : Has s.memory v (ref_field i)
  pub copy : (w.replica ≡ 0 → ⊥) → Has s.memory w.replica (ref_field i)

has_field : (s : Store) (v i : ℕ) → InRange s → sound s.memory v ≡ true → i < refs s.memory v → Has s.memory v (ref_field i)
has_field s v i k e = ref_inside _ _ s.memory.frontier0 s.memory.frontier1 v e (omega (arith, k)) (omega (arith, k)) i

pub storable : {q : StorePlan} (s : Store) (n k i from : ℕ) → passed q ≡ store_plan s n k i from → Storable s i q.into q.writes
unfolding store_plan
storable {q} s n k i from e =
    let a = bind_passed (record_of s n k from) _ (sym e) in
    let x = a.0 in
    let b = recorded s n k from a.1 in
    let d = after_check (ltb i (refs s.memory x.own)) 13 _ a.2 in
    let f = bind_passed (store_writes (heap_of s) x.level x.own i x.other) _ d.1 in
    let p = same-passed f.2 in
    let w = q.writes in
    let st : Stored (heap_of s) i w = store-known (heap_of s) x.level x.own i x.other w (f.1 ∙ ap (λ (y : StorePlan). passed y.writes) p) in
    let v : x.own ≡ q.into = ap (λ (y : StorePlan). y.into) p in
    record {
      known = b.0.known;
      shaded = listable s w b.0.known st.shaded;
      own = rw (← v) (has_field s x.own i b.0.known b.1.sound (ltb-true i (refs s.memory x.own) d.0));
      copy = λ m. has_field s w.replica i b.0.known (st.copied m).sound (st.copied m).field;
    }

module _ {w : Writes} (s : Store) (n g from : ℕ) (e : passed w ≡ put_plan s n g from) where
  putable : (g ≤ last_global) × Listable s w
  unfolding put_plan
  putable =
      let a = bind_passed (session_of s n) _ (sym e) in
      let x = a.0 in
      let b = after_check (is_register from) 8 _ a.2 in
      let c = after_check (is_global g) 9 _ b.1 in
      (leb-true g 31 c.0, listable s w (in_session s n a.1).known (put-known (heap_of s) x.level (get_or s.globals g 0) (register x from) w c.1))

  pub put_number : g ≤ last_global
  put_number = putable.0

  pub put_listable : Listable s w
  put_listable = putable.1
