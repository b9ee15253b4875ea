-- An act beside the table's tests: both are refused with one number, the table being carried still, or both pass.
use Prim.Native.Nat.{ℕ}
use mathlib.Core.Path.{◌≡◌, refl}
use mathlib.Core.Bool.{Bool, true, false, cond, not}
use Rattle.rules.specs.Refusals.{Tested, refused, passed, check, ◌>>=◌ as ◌>>>=◌, ◌>>◌ as ◌>>>◌}
use Rattle.rules.specs.Free.{Free}
use Rattle.directory_rules.specs.Table.{Table}
use Rattle.directory_rules.specs.Acts.{Act, stop, give, ◌>>=◌, ◌>>◌, demand, Performed}
use Rattle.directory_rules.specs.Directory.{absent, present}
use Rattle.directory_rules.specs.declared.Place.{Place}
use Rattle.directory_rules.proofs.free.Perform.{free_perform}
use Rattle.directory_rules.proofs.free.Sequence.{then_passed, then_refused}
use Rattle.directory_rules.proofs.chains.Core.{Layout}
use Rattle.directory_rules.proofs.calls.Kept.{Within}

pub data Alike (n : ℕ) (y : Layout) (t : Table) {A B : Type 0} (R : Free → A → B → Type 0) (p : Performed Free A) : Tested B → Type 0 where
  refuse : {g : Free} {m : ℕ} → p ≡ record { store = g; result = refused m } → Within n g y t → Alike n y t R p (refused m)
  pass : {g : Free} {x : A} {b : B} → p ≡ record { store = g; result = passed x } → R g x b → Alike n y t R p (passed b)

module _ {n : ℕ} {y : Layout} {t : Table} {A B C D : Type 0} {R : Free → A → B → Type 0} {S : Free → C → D → Type 0} (fed : ℕ) (f : Free) where
  -- one after another
  pub alike_then : (a : Act A) (k : A → Act C) {tb : Tested B} {l : B → Tested D} → Alike n y t R (free_perform fed f a) tb
      → ((g : Free) (x : A) (b : B) → R g x b → Alike n y t S (free_perform fed g (k x)) (l b))
      → Alike n y t S (free_perform fed f (a >>= k)) (tb >>>= l)
  alike_then a k (refuse e h) c = refuse (then_refused fed f a k e) h
  alike_then a k (pass e r) c = rw (then_passed fed f a k e) (c _ _ _ r)

module _ {n : ℕ} {y : Layout} {t : Table} {C D : Type 0} {S : Free → C → D → Type 0} (fed : ℕ) {f : Free} (within : Within n f y t) where
  -- a test on both sides
  pub alike_demand : (b : Bool) (m : ℕ) (k : Act C) {u : Tested D} → (b ≡ true → Alike n y t S (free_perform fed f k) u)
      → Alike n y t S (free_perform fed f (demand b m >> k)) (check b m >>> u)
  alike_demand true m k c = c refl
  alike_demand false m k c = refuse refl within

  -- what a walk found is what the table has
  pub alike_present : (w : Place) (b : Bool) (m : ℕ) → w.found ≡ b → (k : Act C) {u : Tested D}
      → (w.found ≡ true → Alike n y t S (free_perform fed f k) u)
      → Alike n y t S (free_perform fed f (present w m >> k)) (check b m >>> u)
  alike_present w b m e k c = rw (← e) (alike_demand w.found m k c)

  pub alike_absent : (w : Place) (b : Bool) (m : ℕ) → w.found ≡ b → (k : Act C) {u : Tested D}
      → (w.found ≡ false → Alike n y t S (free_perform fed f k) u)
      → Alike n y t S (free_perform fed f (absent w m >> k)) (check (not b) m >>> u)
  alike_absent w b m e k {u} c = rw (← e) (go w.found c)
    where
      go : (z : Bool) → (z ≡ false → Alike n y t S (free_perform fed f k) u)
          → Alike n y t S (free_perform fed f (cond z (stop m) (give (tt {0})) >> k)) (check (not z) m >>> u)
      go true c = refuse refl within
      go false c = c refl

-- a test with nothing after it
pub alike_last : {n : ℕ} {y : Layout} {t : Table} {A : Type 0} {R : Free → A → Unit {0} → Type 0} {p : Performed Free A} (b : Bool) (m : ℕ)
    → Alike n y t R p (check b m >>> passed tt) → Alike n y t R p (check b m)
alike_last true m a = a
alike_last false m a = a
