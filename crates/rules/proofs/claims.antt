-- The claims of specs/Claims.antt that need no run, one file each. It rests on relation; the others are in runs, `marks_stay` too, which needs none.

-- claim 1: a refused call keeps the store
pub mod Refusals
-- claim 3, from claim 2
pub mod TwoRuns
-- of section 6: the numbers of refusals
pub mod Numbers
-- of claim 8: what following tests
pub mod Following
-- of claim 10: where 17, 14 and 16 come
pub mod Allocation
-- claim 11: several links are single stores
pub mod Links
