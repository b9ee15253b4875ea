-- The links so far are planned, and the rest of the call is single stores on the store with what they write written. Only the list's end
-- moves in the control record.
use Prim.Native.Nat.{◌*◌}
use mathlib.Core.Path.{◌≡◌}
use lib.ListN.{length, drop}
use Rattle.rules.specs.Calls.{store_each}
use Rattle.store.specs.View.{viewed}
use Rattle.store.specs.Links.{link_count, with_pending, Listed, tailed}
use Rattle.store.proofs.Control.plan_links.Given as goal

abbrev pub invariant-loop-link : goal.invariant-loop-link
invariant-loop-link l =
    let c = l.initial.self in
    let s = viewed c l.lent in
    record {
      words : length l.planned.words ≡ link_count * l.link-index;
      room : Listed c l.planned l.lent.list.now;
      moved : l.self ≡ tailed c l.self.cursor.tail;
      rest : store_each s l.s l.register l.links ≡ store_each (with_pending s l.planned) l.s l.register (drop l.link-index l.links);
    }
