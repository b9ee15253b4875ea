-- Words taken after a count are never refused.
use lib.ListN.{length-take}
use Rattle.std.proofs.Common.{arith}
use Rattle.directory.proofs.acts.Sequence.{after}
use Rattle.directory.proofs.acts.Listing.{listing_as, never_refused, listed}
use Rattle.directory.proofs.lists.listing.Goals as goal

pub returns-in_err-taking_first : goal.returns-in_err-taking_first
returns-in_err-taking_first c =
    absurd (never_refused _ _ _ c.args.half _ _ _ _ _ c.in_ok-count.ensures (omega (arith, length-take c.min-room.result c.args.out.now)) c.taking_first.ensures c.in_err-taking_first.was)

pub returns : goal.returns
returns c = grind (arith, after, listing_as, listed, length-take c.min-room.result c.args.out.now)
