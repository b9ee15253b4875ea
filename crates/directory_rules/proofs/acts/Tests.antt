-- Directory calls write only after all their tests; each that isn't refused allocates one record, of few fields, some none.
use Prim.Native.Nat.{ℕ, zero, suc, ◌+◌, ◌≤◌}
use mathlib.Core.Bool.{Bool, true, false}
use mathlib.Core.List.{List}
use native.Mathlib.Omega.{arith}
use Rattle.directory_rules.specs.Table.{Request, Open, Add, Remove, Make, Join, Leave, Members}
use Rattle.directory_rules.specs.Acts.{Act, must, allocate, Found}
use Rattle.directory_rules.specs.Directory.{inner, none_left, judged, seek, other_of, entries, members, link, fresh, append, adding, making, grouping, pairing, joining, leaving, cut_found, no_group_left, each_group, leaving_all, keep_before, link_person, removing, none_counted, counted, counting, taken, taking, taking_first, least, listing}
use Rattle.directory_rules.specs.Claims.{allocating}
use Rattle.directory_rules.specs.declared.Place.{Place}
use Rattle.directory_rules.specs.declared.Via.{Via}
use Rattle.directory_rules.specs.declared.Via.TheVariants.{Next, First, Top}
use Rattle.directory_rules.proofs.acts.Replies.{FoundFits, at-end, at_failure, at-word, found_fits}
use Rattle.directory_rules.proofs.acts.Careful.{most_fields, Steady, stops, gives, asks, steady_then, steady_either, steady_demand, steady_or_stop, steady_other, Careful, fails, makes, late, steady_careful, careful_late, careful_ending}

ruleset steady = (stops, gives, asks, steady_then, steady_either, steady_demand, steady_or_stop, found_fits)

-- ---- walks, before anything is written or later

module _ {late : Bool} where
  steady_none_left : (at : ℕ) (via : Via) {x : Found} → FoundFits late x → Steady late (none_left at via x)
  steady_none_left at via at-end = search steady
  steady_none_left at via (at_failure n e) = search steady
  steady_none_left at via (at-word w) = search steady

  steady_judged : (at : ℕ) (via : Via) (key least left : ℕ) {on : Act Place} → Steady late on → {x : Found} → FoundFits late x → Steady late (judged at via key least left on x)
  steady_judged at via key least left h at-end = search steady
  steady_judged at via key least left h (at_failure n e) = search steady
  steady_judged at via key least left h (at-word w) = search steady

  steady_seek : (left at : ℕ) (via : Via) (key least : ℕ) → Steady late (seek left at via key least)
  steady_seek zero at via key least = search (steady, steady_none_left)
  steady_seek (suc left) at via key least = let ih = steady_seek left (other_of at) Next key least in search (steady, steady_judged)

  steady_entries : (half key least : ℕ) → Steady late (entries half key least)
  unfolding entries
  steady_entries half key least = search (steady, steady_seek)

  steady_members : (half n : ℕ) → Steady late (members half n)
  unfolding members
  steady_members half n = search (steady, steady_seek)

  steady_keep : (at : ℕ) (via : Via) → Steady late (keep_before at via)
  steady_keep at Next = search steady
  steady_keep at First = search steady
  steady_keep at Top = search steady

-- ---- tests and lists

steady_grouping : (half g : ℕ) → Steady false (grouping half g)
unfolding grouping
steady_grouping half g = search (steady, steady_entries)

steady_pairing : (half n g : ℕ) → Steady false (pairing half n g)
unfolding pairing
steady_pairing half n g = search (steady, steady_grouping, steady_seek, steady_members)

steady_none_counted : (k : ℕ) {x : Found} → FoundFits false x → Steady false (none_counted k x)
steady_none_counted k at-end = search steady
steady_none_counted k (at_failure n e) = search steady
steady_none_counted k (at-word w) = search steady

steady_counted : (k : ℕ) {on : Act ℕ} → Steady false on → {x : Found} → FoundFits false x → Steady false (counted k on x)
steady_counted k h at-end = search steady
steady_counted k h (at_failure n e) = search steady
steady_counted k h (at-word w) = search steady

steady_counting : (left k : ℕ) → Steady false (counting left k)
steady_counting zero k = search (steady, steady_none_counted)
steady_counting (suc left) k = let ih = steady_counting left (suc k) in search (steady, steady_counted)

steady_taken : {x : Found} → FoundFits false x → Steady false (taken x)
steady_taken at-end = search steady
steady_taken (at_failure n e) = search steady
steady_taken (at-word w) = search steady

steady_taking : (k : ℕ) → Steady false (taking k)
steady_taking zero = search steady
steady_taking (suc k) = let ih = steady_taking k in search (steady, steady_taken) depth 8

steady_taking_first : (k : ℕ) → Steady false (taking_first k)
steady_taking_first zero = search steady
steady_taking_first (suc k) = search (steady, steady_taking)

-- ---- changes

steady_link : (at : ℕ) (via : Via) (from : ℕ) → Steady true (link at via from)
steady_link at Next from = search steady
steady_link at First from = search steady
steady_link at Top from = search steady

steady_cut_found : (w : Place) → Steady true (cut_found w)
steady_cut_found w = search (steady, steady_link)

steady_none_group : {x : Found} → FoundFits true x → Steady true (no_group_left x)
steady_none_group at-end = search steady
steady_none_group (at_failure n e) = search steady
steady_none_group (at-word w) = search steady

steady_each : {on : Act (Unit {0})} → Steady true on → {x : Found} → FoundFits true x → Steady true (each_group on x)
steady_each h at-end = search steady
steady_each h (at_failure n e) = search steady
steady_each h (at-word w) = search steady

steady_leaving_all : (left half n : ℕ) → Steady true (leaving_all left half n)
steady_leaving_all zero half n = search (steady, steady_none_group)
steady_leaving_all (suc left) half n =
    let ih = steady_leaving_all left half n in search (steady, steady_each, steady_members, steady_cut_found) depth 12

steady_link_person : (via : Via) → Steady true (link_person via)
steady_link_person Next = search steady
steady_link_person First = search steady
steady_link_person Top = search steady

-- refused, it is the end; or else something is written
careful_allocate : (k r p : ℕ) → r + p ≤ most_fields → Careful 1 (must (allocate k r p))
careful_allocate k r p h = makes k r p h (λ n e. fails n e) (λ x e. steady_other x e)

-- one plain field and r others
careful_fresh : (k r w : ℕ) → r + 1 ≤ most_fields → Careful 1 (fresh k r w)
careful_fresh k r w h = careful_late _ (careful_allocate k r 1 h) (λ x. search steady)

careful_append : (w : Place) (n : ℕ) → Careful 1 (append w n)
unfolding append
careful_append w n = careful_late _ (careful_fresh w.at 1 n (omega arith)) (λ x. steady_link w.at w.via w.at)

-- ---- the calls

careful_adding : (half n : ℕ) → Careful 1 (adding half n)
unfolding adding
careful_adding half n = search (steady_careful, steady, steady_entries, careful_append)

careful_making : (half g : ℕ) → Careful 1 (making half g)
unfolding making
careful_making half g = let h : 3 ≤ most_fields = omega arith in search (steady_careful, careful_late, steady, steady_entries, careful_fresh, steady_link) depth 12

careful_joining : (half n g : ℕ) → Careful 1 (joining half n g)
unfolding joining
careful_joining half n g = search (steady_careful, steady, steady_pairing, careful_append)

careful_leaving : (half n g : ℕ) → Careful 0 (leaving half n g)
unfolding leaving
careful_leaving half n g = search (steady_careful, late, steady, steady_pairing, steady_link)

careful_removing : (half n : ℕ) → Careful 0 (removing half n)
unfolding removing
careful_removing half n =
    search (steady_careful, late, steady, steady_entries, steady_keep, steady_leaving_all, steady_link_person) depth 12

careful_listing : (half g : ℕ) (out : List ℕ) → Careful 0 (listing half g out)
unfolding listing
careful_listing half g out = search (steady_careful, late, steady, steady_grouping, steady_counting, steady_taking_first) depth 12

pub careful_inner : (half : ℕ) (q : Request) → Careful (allocating q) (inner half q)
careful_inner half (Open share) = search (late, gives)
careful_inner half (Add n) = search (careful_ending, careful_late, gives, careful_adding)
careful_inner half (Remove n) = search (careful_ending, careful_late, gives, careful_removing)
careful_inner half (Make g) = search (careful_ending, careful_late, gives, careful_making)
careful_inner half (Join n g) = search (careful_ending, careful_late, gives, careful_joining)
careful_inner half (Leave n g) = search (careful_ending, careful_late, gives, careful_leaving)
careful_inner half (Members g out) = search (careful_ending, careful_listing)
