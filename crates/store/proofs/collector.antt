-- The collector's numbers, its step, and the phases that do not mark: what each unit of work leaves. It rests on tests, session and
-- shading.

-- the collector's numbers: their bounds, and what a unit of work leaves that hands them on
pub mod Numbers
-- the record at the walk place
pub mod Walk
-- 5 Allocate
pub mod Shells
-- 7 Copy
pub mod Copy
-- 11 StackFlip: the registers of a session forwarded
pub mod Forward
-- the step by the number of its phase
pub mod Step
