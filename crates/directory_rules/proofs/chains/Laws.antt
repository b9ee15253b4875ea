-- What a chain says of its places, and chains after a change: a place put in or left out, or none touched.
use Prim.Native.Nat.{ℕ, zero, suc, ◌<◌}
use mathlib.Core.Path.{◌≡◌, refl, sym, ap, ◌∙◌}
use mathlib.Core.Logic.{◌≢◌}
use mathlib.Core.List.Memᴰ
use mathlib.Core.List.{List, [], ◌∷◌, ◌++◌, Memᴰ}
use native.Mathlib.Nat.{not-suc-le-zero}
use native.Mathlib.Omega.{arith}
use lib.ListN.{get_or, length, drop, length-append, length-drop}
use Rattle.rules.specs.Memory.{null}
use Rattle.rules.specs.Free.{Free}
use Rattle.rules.proofs.memory.Cases.{either}
use Rattle.directory_rules.specs.Directory.{next_field}
use Rattle.directory_rules.proofs.free.Slots.{Slot, field, held, slot_after}
use Rattle.directory_rules.proofs.free.Held.{Placed}
use Rattle.directory_rules.proofs.chains.Chain.{Chain, ends, goes}

-- ---- one slot, one chain

-- slots that hold the same begin the same list, whatever the labels
chain_same : {f : Free} {lab lab' : ℕ → ℕ} {l l' : ℕ} {sl sl' : Slot} {xs ys : List ℕ}
    → held f sl ≡ held f sl' → Chain f lab l sl xs → Chain f lab' l' sl' ys → xs ≡ ys
chain_same e (ends h) (ends k) = refl
chain_same e (ends h) (goes k n b r) = absurd (n (sym k ∙ sym e ∙ h))
chain_same e (goes h n b r) (ends k) = absurd (n (sym h ∙ e ∙ k))
chain_same {f = f} e (goes {q = x} {qs = xs} h n b r) (goes {q = y} {qs = ys} k m d s) =
    let q : x ≡ y = sym h ∙ e ∙ k in
    let t : xs ≡ ys = chain_same (ap (λ z. held f (field z next_field)) q) r s in
    rw (q, t)

-- ---- no place twice

-- behind a place of the chain
chain_drop : {f : Free} {lab : ℕ → ℕ} {l : ℕ} {sl : Slot} {qs : List ℕ} → Chain f lab l sl qs
    → (i : ℕ) → i < length qs → Chain f lab l (field (get_or qs i 0) next_field) (drop (suc i) qs)
chain_drop (ends h) i b = absurd (not-suc-le-zero b)
chain_drop (goes h n d r) zero b = r
chain_drop (goes h n d r) (suc i) b = chain_drop r i (omega arith)

pub chain_once : {f : Free} {lab : ℕ → ℕ} {l : ℕ} {sl : Slot} {qs : List ℕ} → Chain f lab l sl qs
    → (i j : ℕ) → i < length qs → j < length qs → get_or qs i 0 ≡ get_or qs j 0 → i ≡ j
chain_once {f = f} {qs = qs} c i j bi bj e =
    let same : drop (suc i) qs ≡ drop (suc j) qs = chain_same (ap (λ z. held f (field z next_field)) e) (chain_drop c i bi) (chain_drop c j bj) in
    omega (arith, ap length same, length-drop (suc i) qs, length-drop (suc j) qs)

-- ---- the places of a chain

module _ {f : Free} {lab : ℕ → ℕ} {l : ℕ} where
  pub chain_label : {sl : Slot} {qs : List ℕ} → Chain f lab l sl qs → {q : ℕ} → Memᴰ q qs → lab q ≡ l
  chain_label (ends h) m = absurd (Memᴰ.not-nil m)
  chain_label (goes h n b r) m = either (Memᴰ.cases_cons m) (λ e. ap lab e ∙ b) (λ k. chain_label r k)

  pub chain_real : {sl : Slot} {qs : List ℕ} → Chain f lab l sl qs → {q : ℕ} → Memᴰ q qs → q ≢ null
  chain_real (ends h) m = absurd (Memᴰ.not-nil m)
  chain_real (goes h n b r) m = either (Memᴰ.cases_cons m) (λ e z. n (sym e ∙ z)) (λ k. chain_real r k)

  pub chain_end : {sl : Slot} → Chain f lab l sl [] → held f sl ≡ null
  chain_end (ends h) = h

  pub chain_first : {sl : Slot} {q : ℕ} {qs : List ℕ} → Chain f lab l sl (q ∷ qs) → held f sl ≡ q
  chain_first (goes h n b r) = h

  -- behind some places
  pub chain_rest : (xs ys : List ℕ) {sl : Slot} → Chain f lab l sl (xs ++ ys) → Chain f lab l (slot_after sl xs) ys
  chain_rest [] ys c = c
  chain_rest (x ∷ xs) ys (goes h n b r) = chain_rest xs ys r

  behind : {sl : Slot} {qs : List ℕ} → Chain f lab l sl qs → {q : ℕ} → Memᴰ q qs
      → (zs : List ℕ) × (length zs < length qs) × Chain f lab l (field q next_field) zs
  behind (ends h) m = absurd (Memᴰ.not-nil m)
  behind (goes {qs = qs} h n b r) m =
      either (Memᴰ.cases_cons m)
      (λ e. (qs, omega arith, rw e r))
      (λ k. let d = behind r k in let less : length d.0 < length qs = d.1 in (d.0, omega arith, d.2))

  -- no place of a chain names the whole of it
  no_return : {qs : List ℕ} {w : Slot} → Chain f lab l w qs → {q : ℕ} → Memᴰ q qs → field q next_field ≢ w
  no_return c m e =
      let d = behind c m in
      let less = d.1 in
      let same = chain_same (ap (held f) e) d.2 c in
      omega (arith, ap length same)

  -- the slot behind some places is not the first
  passes : (x : ℕ) (xs ys : List ℕ) {sl : Slot} → Chain f lab l sl (x ∷ (xs ++ ys)) → slot_after (field x next_field) xs ≢ sl
  passes x xs ys c e =
      let same : ys ≡ x ∷ (xs ++ ys) = chain_same (ap (held f) e) (chain_rest (x ∷ xs) ys c) c in
      omega (arith, ap length same, length-append xs ys)

-- ---- a chain elsewhere

-- from another slot, in another store, with other labels
pub chain_frame : {f f' : Free} {lab lab' : ℕ → ℕ} {l : ℕ} {sl sl' : Slot} {qs : List ℕ} → Chain f lab l sl qs → held f' sl' ≡ held f sl
    → ((q : ℕ) → Memᴰ q qs → held f' (field q next_field) ≡ held f (field q next_field))
    → ((q : ℕ) → Memᴰ q qs → lab' q ≡ l) → Chain f' lab' l sl' qs
chain_frame (ends h) e k b = ends (e ∙ h)
chain_frame (goes {q = q} h n d r) e k b = goes (e ∙ h) n (b q (Memᴰ.head refl)) (chain_frame r (k q (Memᴰ.head refl)) (λ x m. k x (Memᴰ.tail m)) (λ x m. b x (Memᴰ.tail m)))

-- ---- one slot changed

-- every slot holds what it held but w
module _ {f f' : Free} (w : Slot) (kept : (s : Slot) → Placed s → s ≢ w → held f' s ≡ held f s) {lab : ℕ → ℕ} {l : ℕ} where
  -- the places before w, and what now begins there
  chain_joined : (xs ys : List ℕ) {zs : List ℕ} {sl : Slot} → Placed sl → Chain f lab l sl (xs ++ ys) → slot_after sl xs ≡ w
      → Chain f' lab l w zs → Chain f' lab l sl (xs ++ zs)
  chain_joined [] ys p c e d = rw e d
  chain_joined (x ∷ xs) ys {sl = sl} p (goes h n b r) e d = goes (kept sl p (λ z. passes x xs ys (goes h n b r) (e ∙ sym z)) ∙ h) n b (chain_joined xs ys n r e d)

  -- places after w, from a slot that now names the first of them
  after : {zs qs : List ℕ} {sl s : Slot} → Chain f lab l w zs → ((q : ℕ) → Memᴰ q qs → Memᴰ q zs) → Chain f lab l s qs
      → held f' sl ≡ held f s → Chain f' lab l sl qs
  after c i d e = chain_frame d e (λ q m. kept (field q next_field) (chain_real d m) (no_return c (i q m))) (λ q m. chain_label d m)

  -- a place more, between two
  pub chain_insert : (xs ys : List ℕ) {sl : Slot} {p : ℕ} → Placed sl → Chain f lab l sl (xs ++ ys) → slot_after sl xs ≡ w
      → p ≢ null → lab p ≡ l → field p next_field ≢ w → held f (field p next_field) ≡ held f w → held f' w ≡ p → Chain f' lab l sl (xs ++ (p ∷ ys))
  chain_insert xs ys {p = p} z c e n b d k h =
      let rest : Chain f lab l w ys = rw e at (chain_rest xs ys c) in
      chain_joined xs ys z c e (goes h n b (after rest (λ q m. m) rest (kept (field p next_field) n d ∙ k)))

  -- a place less
  pub chain_cut : (xs : List ℕ) (x : ℕ) (ys : List ℕ) {sl : Slot} → Placed sl → Chain f lab l sl (xs ++ (x ∷ ys)) → slot_after sl xs ≡ w
      → held f' w ≡ held f (field x next_field) → Chain f' lab l sl (xs ++ ys)
  chain_cut xs x ys z c e h =
      let rest : Chain f lab l w (x ∷ ys) = rw e at (chain_rest xs (x ∷ ys) c) in
      chain_joined xs (x ∷ ys) z c e (after rest (λ q m. Memᴰ.tail m) (chain_rest (x ∷ []) ys rest) h)
