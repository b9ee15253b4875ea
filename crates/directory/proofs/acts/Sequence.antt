-- One act after another: the second goes on from the store that the first leaves, where the first isn't refused.
use mathlib.Core.Path.{◌≡◌, refl}
use Rattle.rules.specs.Refusals.{Tested, refused, passed}
use Rattle.rules.specs.Control.{Store}
use Rattle.rules.specs.Runs.{apply}
use Rattle.directory_rules.specs.Acts.{Act, stop, give, ask, ◌>>=◌, call_of, Performed, perform}

-- what follows an act, by its result
abbrev pub onward : {A B : Type 0} → Store → Tested A → (A → Act B) → Performed Store B
onward s (refused n) k = record { store = s; result = refused n }
onward s (passed a) k = perform s (k a)

-- the law by which a function's calls, one after another with `?`, are its act
pub after : {A B : Type 0} (s : Store) (a : Act A) (k : A → Act B) → perform s (a >>= k) ≡ onward (perform s a).store (perform s a).result k
after s (stop n) k = refl
after s (give a) k = refl
after s (ask c f) k = after (apply s (call_of c)).store (f (apply s (call_of c)).reply) k

-- acts in a row, however they are taken together
pub regroup : {A B C : Type 0} (s : Store) (a : Act A) (f : A → Act B) (g : B → Act C)
    → perform s (a >>= f >>= g) ≡ perform s (a >>= λ x. f x >>= g)
regroup s (stop n) f g = refl
regroup s (give a) f g = refl
regroup s (ask c h) f g = regroup (apply s (call_of c)).store (h (apply s (call_of c)).reply) f g

-- the same act before acts that are alike in what they leave
pub alike_then : {A B : Type 0} (s : Store) (a : Act A) (k j : A → Act B) → ((t : Store) (x : A) → perform t (k x) ≡ perform t (j x))
    → perform s (a >>= k) ≡ perform s (a >>= j)
alike_then s (stop n) k j e = refl
alike_then s (give x) k j e = e s x
alike_then s (ask c f) k j e = alike_then (apply s (call_of c)).store (f (apply s (call_of c)).reply) k j e
