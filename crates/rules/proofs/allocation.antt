-- New records: what the invariant needs when memory grows, the call allocate, and the shells of Allocate. It rests on invariant,
-- relation, sessions and phases.

-- memories that have got new records
pub mod Grown
-- what the invariant asks of them; each group after it, and all of it
pub mod Growth
pub mod GrowValues
pub mod GrowPairs
pub mod GrowMarking
pub mod GrowSim
-- the collector-free records with a new one
pub mod FreeRecords
-- one new record, one in both halves, a shell
pub mod Single
pub mod Double
pub mod Shell
-- 5 Allocate: the walk, the whole unit
pub mod WalkOn
pub mod AllocateShells
-- allocate: what it writes at each level, the call, how it ends
pub mod Allocated
pub mod Allocate
pub mod Outcome
