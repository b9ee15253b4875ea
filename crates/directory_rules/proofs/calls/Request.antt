-- Every call of the directory, on the collector-free store: it answers what the table says, and what it leaves carries the table
-- after it.
use Prim.Native.Nat.{ℕ}
use Rattle.rules.specs.Free.{Free}
use Rattle.directory_rules.specs.Table.{Request, Open, Add, Remove, Make, Join, Leave, Members, Table}
use Rattle.directory_rules.proofs.chains.Core.{Layout, Represents, Short}
use Rattle.directory_rules.proofs.calls.Kept.{RequestKept}
use Rattle.directory_rules.proofs.calls.Opening.{opening-kept}
use Rattle.directory_rules.proofs.calls.Adding.{adding-kept}
use Rattle.directory_rules.proofs.calls.Making.{making-kept}
use Rattle.directory_rules.proofs.calls.Joining.{joining-kept}
use Rattle.directory_rules.proofs.calls.Leaving.{leaving-kept}
use Rattle.directory_rules.proofs.calls.Removing.{removing-kept}
use Rattle.directory_rules.proofs.calls.Listing.{listing-kept}

pub request-kept : {half : ℕ} (fed : ℕ) {f : Free} {y : Layout} {t : Table} → Represents f y t → Short half y → (q : Request) → RequestKept half fed f y t q
request-kept fed r short (Open share) = opening-kept _ fed share r
request-kept fed r short (Add m) = adding-kept fed r short m
request-kept fed r short (Remove m) = removing-kept fed r short m
request-kept fed r short (Make g) = making-kept fed r short g
request-kept fed r short (Join m g) = joining-kept fed r short m g
request-kept fed r short (Leave m g) = leaving-kept fed r short m g
request-kept fed r short (Members g out) = listing-kept fed r short g out
