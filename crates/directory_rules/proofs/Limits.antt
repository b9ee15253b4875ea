-- The table of limits, computed by the checker group by group.
use mathlib.Core.Path.{◌≡◌, refl}
use mathlib.Core.List.{[], ◌∷◌, ◌++◌, map, map-append}
use lib.ListN.{length}
use Rattle.rules.specs.Control.{Store}
use Rattle.rules.specs.Examples.{Computed}
use Rattle.directory_rules.specs.Table.{Open, Add}
use Rattle.directory_rules.specs.Acts.{calls_made}
use Rattle.directory_rules.specs.Directory.{program_on}
use Rattle.directory_rules.specs.Runs.{request, after_items}
use Rattle.directory_rules.specs.Limits.{entry_ring, empty, numbers_among, numbers, bounded, number_rows, chain_rows, limits}
use Rattle.directory_rules.specs.Claims.{Limits}
use Rattle.directory_rules.proofs.Examples.{directory}

numbers_hold : Computed number_rows
unfolding number_rows empty numbers_among numbers directory
numbers_hold = refl

chains_hold : Computed chain_rows
unfolding chain_rows empty numbers_among bounded directory
chains_hold = refl

pub limits_hold : Limits
unfolding Limits limits
limits_hold = simp (map-append, numbers_hold, chains_hold)

-- ---- a walk over a chain without end passes as many links as a half has words: 17 reads, 16 loads, and a safe point, a get and two clears

ring : Store
ring = after_items (empty 16) (map request (Open 99 ∷ Add 7 ∷ []) ++ entry_ring)

half-walked : length (calls_made ring (program_on ring (Add 8))) ≡ 37
unfolding ring empty directory
half-walked = refl
