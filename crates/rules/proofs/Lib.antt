-- The claims of specs/Claims.antt: claim 5 by computation; claim 1, the numbers of section 6 and, of claim 7, that marks stay from each rule
-- by itself; of claim 8 what following tests from its definition; the others from the run theorem.

-- claim 5, and closed runs that the checker computes
pub mod Examples
-- the table of limits
pub mod Limits
-- the script example of document 01, from bytes to bytes, and the call of each kind of entry
pub mod Script
-- claim 1, claim 3 from claim 2, of section 6 the numbers of refusals, and of claim 8 what following tests
pub mod claims
-- what the tests 4, 5 and 6 say: the ranges of the control record, the session of a call
pub mod Ranges
-- a record shaded, or nothing
pub mod Shaded
-- The run theorem, in layers, lowest first.
-- the memory interface: what a record is, and what the operations on memory keep
pub mod memory
-- the invariant of a run, in groups
pub mod invariant
-- changes of words that leave every record where it is
pub mod frames
-- what is shown of a call and of a step
pub mod relation
-- one session or one global changed; the session calls that write no record
pub mod sessions
-- moving on from phase to phase, the flips, Reclaim
pub mod phases
-- shading and marking
pub mod marking
-- fields written: store, write, put, Copy
pub mod fields
-- new records: allocate, and the shells of Allocate
pub mod allocation
-- every call and every step, runs, and the claims
pub mod runs
