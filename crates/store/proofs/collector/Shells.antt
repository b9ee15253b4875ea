-- Shells: one put at the other half's frontier, and what that asks for.
use Prim.Native.Nat.{ℕ, ◌+◌, ◌≤◌}
use mathlib.Core.Path.{◌≡◌, ◌∙◌, sym, ap, refl}
use mathlib.Core.Bool.{Bool, true, false, cond}
use mathlib.Core.List.{List}
use native.Mathlib.Omega.{arith}
use lib.Dec.{eqb}
use lib.ListN.{length}
use lib.Seq.{sets}
use Rattle.rules.specs.Memory.{Memory, half, frontier, with_half, with_frontier, reference, new_record, next_reference, append, word, put, refs, plains, header, replica_at, shape_at, birth_at, birth_number}
use Rattle.rules.specs.Control.{most_length}
use Rattle.rules.specs.Phases.{other_half}
use Rattle.rules.specs.Collector.{shell_of, with_shell}
use Rattle.rules.proofs.memory.Cases.{chosen_below}
use Rattle.heap.specs.View.{memory}
use Rattle.heap.proofs.Soundness.{Found, header_inside}
use Rattle.heap.proofs.Written.{appended}
use Rattle.store.specs.Shells.{Shelled}
use Rattle.store.specs.Cursors.{Ready}
use Rattle.store.specs.declared.Cursor.{Cursor}

-- ---- the shell

-- the words of a record don't depend on the frontiers
word_any : (h0 h1 : List ℕ) (f0 f1 v j : ℕ) → word (memory h0 h1 0 0) v j ≡ word (memory h0 h1 f0 f1) v j
unfolding word half
word_any h0 h1 f0 f1 v j = refl

fields_any : (h0 h1 : List ℕ) (f0 f1 v : ℕ) → refs (memory h0 h1 0 0) v + plains (memory h0 h1 0 0) v
    ≡ refs (memory h0 h1 f0 f1) v + plains (memory h0 h1 f0 f1) v
unfolding refs plains word half
fields_any h0 h1 f0 f1 v = refl

-- a frontier moved and a word put, in either order
put-frontier : (N : Memory) (h f v j x : ℕ) → put (with_frontier N h f) v j x ≡ with_frontier (put N v j x) h f
unfolding put with_frontier with_half half
put-frontier N h f v j x = refl

shell_words : {shape birth shell n at : ℕ} (M : Memory) (other v : ℕ) → shape ≡ word M v shape_at → birth ≡ word M v birth_at → shell ≡ reference other at
    → n ≡ refs M v + plains M v → frontier M other ≡ at
    → put (append M other (new_record shape 0 v birth n)) v replica_at shell ≡ with_shell M other v
unfolding with_shell shell_of next_reference birth_number
shell_words M other v w b t n e = rw (w, b, t, n, e)

module _ (h0 h1 : List ℕ) (f0 f1 : ℕ) {N P : Memory} {shape birth shell : ℕ} (other at v n : ℕ) where
  pub shell_put : n ≡ refs (memory h0 h1 0 0) v + plains (memory h0 h1 0 0) v
      → shape ≡ word (memory h0 h1 0 0) v shape_at → birth ≡ word (memory h0 h1 0 0) v birth_at → shell ≡ reference other at
      → N ≡ with_half (memory h0 h1 f0 f1) other (sets (half (memory h0 h1 f0 f1) other) at (new_record shape 0 v birth n))
      → P ≡ put N v replica_at shell → frontier (memory h0 h1 f0 f1) other ≡ at
      → with_frontier P other (at + (n + header)) ≡ with_shell (memory h0 h1 f0 f1) other v
  shell_put c w b t a p e =
      let M = memory h0 h1 f0 f1 in
      let q : with_frontier N other (frontier M other + (n + header)) ≡ append M other (new_record shape 0 v birth n) = appended M other shape 0 v birth n (rw e a) in
      ap (λ (X : Memory). with_frontier X other (at + (n + header))) p
      ∙ sym (put-frontier N other (at + (n + header)) v replica_at shell)
      ∙ ap (λ (X : Memory). put X v replica_at shell) (rw e at q)
      ∙ shell_words M other v (w ∙ word_any h0 h1 f0 f1 v shape_at) (b ∙ word_any h0 h1 f0 f1 v birth_at) t (c ∙ fields_any h0 h1 f0 f1 v) e

-- ---- a record that is to get its shell

half_long : (b : Bool) (h0 h1 : List ℕ) → length h0 ≡ length h1 → length (cond b h0 h1) ≡ length h0
half_long true h0 h1 e = refl
half_long false h0 h1 e = sym e

-- both halves are as long
pub other_long : (h0 h1 : List ℕ) (f0 f1 h : ℕ) → length h0 ≡ length h1 → length (half (memory h0 h1 f0 f1) h) ≡ length h0
unfolding half
other_long h0 h1 f0 f1 h e = half_long (eqb h 0) h0 h1 e

-- the frontier of the other half, where a shell is put
module _ {c : Cursor} {h0 h1 : List ℕ} {at : ℕ} (other : ℕ) (k : Ready c h0 h1) (e : at ≡ frontier (memory h0 h1 c.frontier0 c.frontier1) other) where
  pub front-small : at ≤ most_length
  unfolding frontier
  front-small =
      let l = chosen_below (eqb other 0) c.frontier0 c.frontier1 (length h0) k.low (omega (arith, k.high, k.equal)) in
      omega (arith, k.most, e)

  pub shell_ready : {v w r p : ℕ} → Found (memory h0 h1 c.frontier0 c.frontier1) v w r p → other ≡ other_half c.current → at + (r + p + header) ≤ length h0
      → Shelled h0 h1 other at v (r + p)
  unfolding other_half
  shell_ready {v} {w} {r} {p} f o l =
      let n = fields_any h0 h1 c.frontier0 c.frontier1 v in
      let inside = header_inside h0 h1 c.frontier0 c.frontier1 v f.sound k.low k.high in
      record {
        shape = inside shape_at (omega arith);
        replica = inside replica_at (omega arith);
        birth = inside birth_at (omega arith);
        fields = omega (arith, n, f.refs, f.plains);
        side = omega (arith, k.half, o);
        few = front-small;
        room = rw (other_long h0 h1 0 0 other k.equal) l;
      }
