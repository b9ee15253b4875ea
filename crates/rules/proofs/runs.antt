-- The run theorem: a new store has the invariant, and every call and every step keeps it. It rests on all layers below.

-- a newly made store
pub mod Start
-- a step, and any call
pub mod Step
pub mod Call
-- runs: the invariant, the bound on marking, and the session answers
pub mod Runs
-- the halves without gaps
pub mod Filled
-- what a collection frees, and that it stays so
pub mod Freed
pub mod StaysFreed
-- what is reached fits in a half
pub mod LiveFits
-- the claims 2 to 4, and those of section 6 on runs
pub mod Claims
-- claim 7: marking ends; in HeapMark marks stay
pub mod MarkingEnds
pub mod MarksStay
-- shares and charges, and room for what the shares leave
pub mod Shares
-- every call keeps the ranges, on every store
pub mod RangeKept
