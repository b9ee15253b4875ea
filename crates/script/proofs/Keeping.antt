-- Read, write and same leave the control record as it came: its next copy needn't be taken from the reply.
use Prim.Native.Nat.{ℕ}
use mathlib.Core.Path.{◌≡◌, refl, sym, ap}
use mathlib.Core.Bool.{Bool, true, false, cond, ◌&&◌}
use mathlib.Core.List.{List}
use lib.Dec.{eqb, ltb}
use Rattle.rules.specs.Answers.{answer_of}
use Rattle.rules.specs.Refusals.{Tested, refused, passed, check, ◌>>=◌, Outcome, answer, settle}
use Rattle.rules.specs.Memory.{put, with_half, plains}
use Rattle.rules.specs.Control.{Store, with_memory}
use Rattle.rules.specs.Phases.{register}
use Rattle.rules.specs.Barriers.{heap_of, put_both, same_at}
use Rattle.rules.specs.Calls.{session_of, is_register, record_of, read, write_plan, write_commit, write, same}
use Rattle.rules.specs.Runs.{apply, Read, Write, SameAs}
use Rattle.store.specs.declared.Control.{Control}
use Rattle.store.specs.declared.Reply.{Reply}
use Rattle.store.specs.View.{view, outcome}
use Rattle.script.specs.Commands.{answered}

-- all but the words of the halves as it was
abbrev Keeps : Store → Store → Type 0
Keeps s t =
    t
    ≡ with_memory s (record { half0 = t.memory.half0; half1 = t.memory.half1; frontier0 = s.memory.frontier0; frontier1 = s.memory.frontier1 })

-- a rule does so
pub record Kept (s : Store) (m : Tested (Outcome Store)) : Type 0 where
  pub keeps : Keeps s (settle s m).store

-- a row of tests keeps what its end keeps
tests_keep : {A : Type 0} (s : Store) (m : Tested A) (f : A → Tested (Outcome Store)) → ((a : A) → Kept s (f a)) → Kept s (m >>= f)
tests_keep s (refused n) f e = record { keeps = refl }
tests_keep s (passed a) f e = e a

-- words written keep the frontiers
both_keep : (s : Store) (v j x t k y : ℕ) → Keeps s (with_memory s (put_both s.memory v j x t k y))
unfolding put_both put with_half
both_keep s v j x t k y = by (eqb t 0)
  where
    by : (b : Bool) → Keeps s (with_memory s (cond b (put s.memory v j x) (put (put s.memory v j x) t k y)))
    by true = refl
    by false = refl

module _ (s : Store) (n : ℕ) where
  read_keeps : (k i : ℕ) → Kept s (read s n k i)
  unfolding read
  read_keeps k i =
      tests_keep s (record_of s n k k) _ (λ x. tests_keep s (check (ltb i (plains s.memory x.own)) 13) _ (λ b. record { keeps = refl }))

  same_keeps : (a b : ℕ) → Kept s (same s n a b)
  unfolding same
  same_keeps a b =
      tests_keep s (session_of s n) _ (λ x. tests_keep s (check (is_register a && is_register b) 8) _
      (λ u. tests_keep s (same_at (heap_of s) x.level (register x a) (register x b)) _ (λ y. record { keeps = refl })))

  write_keeps : (k i a : ℕ) → Kept s (write s n k i a)
  unfolding write write_commit
  write_keeps k i a = tests_keep s (write_plan s n k i) _ (λ q. record { keeps = both_keep s q.own _ a q.replica _ a })

-- so the call leaves the control record that it was given, with its answer
kept-reply : (c : Control) (h0 h1 l : List ℕ) (m : Tested (Outcome Store)) (r : Reply) {h0' h1' : List ℕ} → Kept (view c h0 h1 l) m
    → outcome r h0' h1' l ≡ settle (view c h0 h1 l) m → answered c r.answer h0' h1' l ≡ settle (view c h0 h1 l) m
kept-reply c h0 h1 l m r {h0'} {h1'} k e =
    let o = settle (view c h0 h1 l) m in
    let a : h0' ≡ o.store.memory.half0 = ap (λ (x : Outcome Store). x.store.memory.half0) e in
    let b : h1' ≡ o.store.memory.half1 = ap (λ (x : Outcome Store). x.store.memory.half1) e in
    let t : view c h0' h1' l ≡ o.store = rw (a, b) (sym k.keeps) in
    let u : answer (answer_of r.answer) ≡ o.reply = ap (λ (x : Outcome Store). x.reply) e in
    rw (t, u)

module _ (c : Control) (h0 h1 l : List ℕ) (n : ℕ) (r : Reply) where
  pub read_kept : (k i : ℕ) → outcome r h0 h1 l ≡ apply (view c h0 h1 l) (Read n k i) → answered c r.answer h0 h1 l ≡ apply (view c h0 h1 l) (Read n k i)
  read_kept k i = kept-reply c h0 h1 l (read (view c h0 h1 l) n k i) r (read_keeps (view c h0 h1 l) n k i)

  pub same_kept : (a b : ℕ) → outcome r h0 h1 l ≡ apply (view c h0 h1 l) (SameAs n a b) → answered c r.answer h0 h1 l ≡ apply (view c h0 h1 l) (SameAs n a b)
  same_kept a b = kept-reply c h0 h1 l (same (view c h0 h1 l) n a b) r (same_keeps (view c h0 h1 l) n a b)

  pub write_kept : (k i a : ℕ) {h0' h1' : List ℕ} → outcome r h0' h1' l ≡ apply (view c h0 h1 l) (Write n k i a)
      → answered c r.answer h0' h1' l ≡ apply (view c h0 h1 l) (Write n k i a)
  write_kept k i a = kept-reply c h0 h1 l (write (view c h0 h1 l) n k i a) r (write_keeps (view c h0 h1 l) n k i a)

pub ruleset keeping = (read_kept, same_kept)
