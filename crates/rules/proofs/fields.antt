-- Fields written: what that keeps of the invariant, the calls store, write and put, and Copy. It rests on invariant, frames,
-- relation, sessions, phases and marking.

-- the collector-free records with one changed
pub mod FreeRecords
-- any field written: which words stay, and each group after it
pub mod Write
pub mod WriteSim
-- in one copy or both; a reference, a plain field
pub mod Written
pub mod Reference
pub mod Plain
-- the bound on marking
pub mod Spent
-- the barriers by level: what their rules pass with, levels 0 to 3, each store, levels 4 to 6
pub mod Barrier
pub mod Barred
pub mod Stores
pub mod Table
-- the call store, at every level in every phase that the level has
pub mod Storing
-- the call for several links: stores in list order
pub mod Links
-- the call write: a plain field, at levels 4 to 6 of both copies
pub mod Writing
-- the call put: a global takes a register's word
pub mod Putting
-- 7 Copy: the walk, the whole unit
pub mod CopyWalk
pub mod Copying
