-- The claims of specs/Claims.antt.

-- closed runs that the checker computes
pub mod Examples
-- the table of limits
pub mod Limits
-- one with a whole collection after a removal
pub mod Collected
-- lists
pub mod Lists
-- the directory's calls on any store: the claims that hold there
pub mod acts
-- The run theorem, in layers, lowest first.
-- the table's lists
pub mod tables
-- the collector-free store as session 15 meets it: its registers, its records, acts on it
pub mod free
-- chains of records there, and how they carry the table
pub mod chains
-- what a walk over a chain comes to
pub mod walks
-- each call of the directory does what the table says
pub mod calls
-- runs: acts on the store of a run, other sessions' calls, and the claims
pub mod runs
