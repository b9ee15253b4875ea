-- A run of the code is a run of the rules.
use Prim.Native.Nat.{ℕ}
use mathlib.Core.Path.{◌≡◌, refl, sym, ap, ap₂, ◌∙◌}
use mathlib.Core.List.{List, ◌∷◌}
use Rattle.rules.specs.Refusals.{Reply, answer, words}
use Rattle.rules.specs.Runs.{Call, apply, run, after}
use Rattle.rules.specs.Claims.{Made}
use Rattle.store.specs.View.{view}
use Rattle.store.specs.CodeRuns.{Lent, viewed, CodeMade, by_make, Called, by_attach, by_detach, by_safe_point, by_allocate, by_load, by_store, by_store_links, by_read, by_write, by_move_register, by_clear, by_same, by_get, by_put, by_stretch, by_companion, by_birth, by_step, CodeRun, ended, next, CodeRuns}
use Rattle.store.specs.declared.Control.{Control}

-- a call leaves what the rules give: the store that the next call gets, and the reply
pub called_applies : {self : Control} {h0 h1 list : List ℕ} {c : Call} {r : Reply} {b : Lent}
    → Called self h0 h1 list c r b → record { store = viewed b; reply = r } ≡ apply (view self h0 h1 list) c
called_applies (by_attach s share r e) = e
called_applies (by_detach s r e) = e
called_applies (by_safe_point s r e) = e
called_applies (by_allocate s register r p a h0' h1' e) = e
called_applies (by_load s to register field r e) = e
called_applies (by_store s register field from r h0' h1' list' e) = e
called_applies (by_store_links s register count links r h0' h1' list' e) = e
called_applies (by_read s register field r e) = e
called_applies (by_write s register field value r h0' h1' e) = e
called_applies (by_move_register s to from r e) = e
called_applies (by_clear s register r e) = e
called_applies (by_same s a b r e) = e
called_applies (by_get s to global r e) = e
called_applies (by_put s global from r h0' h1' list' e) = e
called_applies {self} {h0} {h1} {list} (by_stretch s register r e) = ap (λ ws. record { store = view self h0 h1 list; reply = words ws }) e
called_applies {self} {h0} {h1} {list} (by_companion s register r e) =
    ap (λ x. record { store = view self h0 h1 list; reply = answer x }) e
called_applies (by_birth s register r e) = e
called_applies (by_step r h0' h1' list' e) = e

-- a making is one of the rules
pub code_made : {a : Lent} → CodeMade a → Made (viewed a)
code_made (by_make h0 h1 list r e d) =
    record {
      half0 = h0;
      half1 = h1;
      list = list;
      accepted = ap (λ o. o.reply) (sym e) ∙ ap answer d;
      fresh = ap (λ o. o.store) (sym e);
    }

-- the replies and the last store, call by call
pub run_applies : {a e : Lent} {cs : List Call} {rs : List Reply}
    → CodeRun a cs rs e → (rs ≡ run (viewed a) cs) × (viewed e ≡ after (viewed a) cs)
run_applies ended = (refl, refl)
run_applies (next {a} {b} {c = c} {r = r} {cs = cs} called rest) =
    let k = called_applies called in
    let ih = run_applies rest in
    let s : viewed b ≡ (apply (viewed a) c).store = ap (λ o. o.store) k in
    let q : r ≡ (apply (viewed a) c).reply = ap (λ o. o.reply) k in
    (ap₂ (λ x xs. x ∷ xs) q (ih.0 ∙ ap (λ x. run x cs) s), ih.1 ∙ ap (λ x. after x cs) s)

pub code_runs : CodeRuns
unfolding CodeRuns
code_runs a e cs rs made calls = (code_made made, (run_applies calls).0, (run_applies calls).1)
