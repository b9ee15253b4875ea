-- What holds of the store that a row of tests leaves, where all of them pass.
use Prim.Native.Nat.{ℕ}
use Rattle.rules.specs.Refusals.{Tested, refused, passed, ◌>>=◌, Outcome, settle}

pub data Ends {S : Type 0} (P : S → Type 0) : Tested (Outcome S) → Type 0 where
  fails : (n : ℕ) → Ends P (refused n)
  ends : (o : Outcome S) → P o.store → Ends P (passed o)

-- where one fails, the store stays
pub settled : {S : Type 0} {P : S → Type 0} (s : S) {m : Tested (Outcome S)} → Ends P m → P s → P (settle s m).store
settled s (fails n) h = h
settled s (ends o k) h = k

-- one call after another
pub then_ends : {S : Type 0} {P Q : S → Type 0} {m : Tested (Outcome S)} (k : Outcome S → Tested (Outcome S)) → Ends P m → ((o : Outcome S) → P o.store → Ends Q (k o)) → Ends Q (m >>= k)
then_ends k (fails n) h = fails n
then_ends k (ends o p) h = h o p

pub map_ends : {S : Type 0} {P Q : S → Type 0} {m : Tested (Outcome S)} → ((s : S) → P s → Q s) → Ends P m → Ends Q m
map_ends f (fails n) = fails n
map_ends f (ends o p) = ends o (f o.store p)

pub after_tests : {S : Type 0} {P : S → Type 0} {A : Type 0} (m : Tested A) (k : A → Tested (Outcome S)) → ((a : A) → Ends P (k a)) → Ends P (m >>= k)
after_tests (refused n) k h = fails n
after_tests (passed a) k h = h a
