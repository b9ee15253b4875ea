-- An act that makes a call goes on by its reply; where it must make it, it ends if the call is refused.
use Prim.Native.Nat.{ℕ}
use mathlib.Core.Path.{◌≡◌, ap}
use Rattle.rules.specs.Refusals.{refused, passed, Outcome, Reply, answer}
use Rattle.rules.specs.Free.{Free}
use Rattle.rules.specs.Answers.{Refused, Done}
use Rattle.directory_rules.specs.Acts.{Ask, Act, ask, ◌>>=◌, or_stop, must}
use Rattle.directory_rules.proofs.free.Perform.{free_ask, free_perform}

pub asked : {B : Type 0} (fed : ℕ) (f : Free) (c : Ask) (k : Reply → Act B) {g : Free} {r : Reply}
    → free_ask fed f c ≡ record { store = g; reply = r } → free_perform fed f (ask c k) ≡ free_perform fed g (k r)
asked fed f c k e = ap (λ (o : Outcome Free). free_perform fed o.store (k o.reply)) e

pub must-done : {B : Type 0} (fed : ℕ) (f : Free) (c : Ask) (k : Unit {0} → Act B) {g : Free}
    → free_ask fed f c ≡ record { store = g; reply = answer Done } → free_perform fed f (must c >>= k) ≡ free_perform fed g (k tt)
must-done fed f c k e = asked fed f c (λ r. or_stop r >>= k) e

pub must-refused : {B : Type 0} (fed : ℕ) (f : Free) (c : Ask) (k : Unit {0} → Act B) {g : Free} {n : ℕ}
    → free_ask fed f c ≡ record { store = g; reply = answer (Refused n) }
    → free_perform fed f (must c >>= k) ≡ record { store = g; result = refused n }
must-refused fed f c k e = asked fed f c (λ r. or_stop r >>= k) e

-- nothing after it
pub must_last : (fed : ℕ) (f : Free) (c : Ask) {g : Free} → free_ask fed f c ≡ record { store = g; reply = answer Done }
    → free_perform fed f (must c) ≡ record { store = g; result = passed tt }
must_last fed f c e = asked fed f c or_stop e
