-- A walk looks at the record at hand: its word is read and the next one loaded, or there is none.
use Prim.Native.Nat.{ℕ, ◌≤◌}
use mathlib.Core.Path.{◌≡◌}
use native.Mathlib.Omega.{arith}
use Rattle.rules.specs.Memory.{null}
use Rattle.rules.specs.Control.{last_register}
use Rattle.rules.specs.Free.{Free}
use Rattle.directory_rules.specs.Acts.{load, read, Act, ask, ◌>>=◌, must, Found, ended, word, found_in}
use Rattle.directory_rules.specs.Directory.{next_field, number_field}
use Rattle.directory_rules.proofs.free.Perform.{free_perform}
use Rattle.directory_rules.proofs.free.Session.{reg, set_reg, Ready}
use Rattle.directory_rules.proofs.free.Must.{asked, must-done}
use Rattle.directory_rules.proofs.free.Steps.{load_step, read_step, read-null}
use Rattle.directory_rules.proofs.free.Slots.{field, held, number_at}
use Rattle.directory_rules.proofs.chains.Core.{Good}
use Rattle.directory_rules.proofs.chains.SoundStore.{good_there}

module _ (fed : ℕ) {f : Free} (ready : Ready f) (k : ℕ) (low : k ≤ last_register) where
  pub reads_end : {A : Type 0} (h : Found → Act A) → reg f k ≡ null
      → free_perform fed f (ask (read k number_field) (λ r. h (found_in r))) ≡ free_perform fed f (h ended)
  reads_end h none = asked fed f (read k number_field) (λ r. h (found_in r)) (read-null fed ready k number_field low none)

  module _ {q : ℕ} (here : reg f k ≡ q) (good : Good f q) where
    pub reads_word : {A : Type 0} (h : Found → Act A)
        → free_perform fed f (ask (read k number_field) (λ r. h (found_in r))) ≡ free_perform fed f (h (word (number_at f q)))
    reads_word h =
        asked fed f (read k number_field) (λ r. h (found_in r)) (read_step fed ready k low here good.some (omega (arith, good.plain)))

    pub loads_next : {A : Type 0} (to : ℕ) (h : Unit {0} → Act A) → to ≤ last_register
        → free_perform fed f (must (load to k next_field) >>= h) ≡ free_perform fed (set_reg f to (held f (field q next_field))) (h tt)
    loads_next to h b = must-done fed f (load to k next_field) h (load_step fed ready to k next_field b low here (good_there good))
