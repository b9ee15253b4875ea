-- In a run no chain is longer than a half has words: its records are different, and the directory's global reaches them.
use Prim.Native.Nat.{ℕ, ◌≤◌}
use mathlib.Core.List.{List, [], ◌∷◌, Memᴰ}
use native.Mathlib.Omega.{arith}
use lib.ListN.{length}
use Rattle.rules.specs.Control.{Store}
use Rattle.rules.specs.Runs.{Call}
use Rattle.rules.specs.Free.{Free}
use Rattle.rules.specs.Tracking.{Reached, by_register, by_global, by_field, words_at}
use Rattle.rules.specs.Claims.{Made, LiveFits}
use Rattle.rules.proofs.runs.Claims.{live_fits}
use Rattle.directory_rules.specs.Table.{Table}
use Rattle.directory_rules.specs.Acts.{own_session, own_global}
use Rattle.directory_rules.specs.Holding.{OwnReached}
use Rattle.directory_rules.specs.Holding as own
use Rattle.directory_rules.proofs.free.Slots.{Slot}
use Rattle.directory_rules.proofs.chains.Chain.{Chain}
use Rattle.directory_rules.proofs.chains.Laws.{chain_once}
use Rattle.directory_rules.proofs.chains.Core.{Layout, Core, Short}
use Rattle.directory_rules.proofs.chains.Holding.{entry-reached, link-reached}
use Rattle.directory_rules.proofs.runs.Beside.{Here}

-- what the directory reaches is reached
own-reached : {f : Free} {q : ℕ} → OwnReached f q → Reached f q
own-reached (own.by_register k some) = by_register own_session k some
own-reached (own.by_global some) = by_global own_global some
own-reached (own.by_field q i r some) = by_field q i (own-reached r) some

-- each record has a word at least
length-words : (f : Free) (qs : List ℕ) → length qs ≤ words_at f qs
length-words f [] = omega arith
length-words f (q ∷ qs) = omega (arith, length-words f qs)

-- ---- in a run

module _ {s : Store} (made : Made s) {cs : List Call} {t : Store} {f : Free} (here : Here s cs t f) where
  chain_short : {lab : ℕ → ℕ} {l : ℕ} {sl : Slot} {qs : List ℕ} → Chain f lab l sl qs → ((q : ℕ) → Memᴰ q qs → OwnReached f q) → length qs ≤ t.lengths.half0
  unfolding LiveFits
  chain_short {qs = qs} c r =
      let fits : words_at f qs ≤ t.lengths.half0 = rw (here.store, here.free) at (live_fits s made cs qs) (λ q m. own-reached (r q m)) (chain_once c) in
      omega (arith, length-words f qs)

  pub core_short : {y : Layout} {u : Table} → Core f y u → Short t.lengths.half0 y
  core_short c = record {
    entries = chain_short c.entries (λ q m. entry-reached c m);
    links = λ g i. chain_short (c.linked g i).chain (λ q m. link-reached c i m);
  }
