-- Runs: an act on the store of a run is the same act on the collector-free store, and the table is carried along.

-- the store of a run and the collector-free store beside it
pub mod Beside
-- an act on both
pub mod Performs
-- a change beside the directory keeps what is carried
pub mod Aside
-- the changes that other sessions make
pub mod Changes
-- calls of other sessions
pub mod Others
-- chains are no longer than a half
pub mod Length
-- a new store carries the new table
pub mod Start
-- the table carried along a run
pub mod Run
-- a refused call has done its safe point and no more
pub mod SafePoint
-- the store's claims of runs with directory calls
pub mod StoreClaims
-- what the directory holds along a run
pub mod Holding
