-- The invariant of a run, in groups by what they read, and what it gives at once. It rests on memory.

-- the stages of the phases
pub mod Stages
-- words that name records; the groups on values; white records that HeapMark has still to come to, and the groups on marking
pub mod Words
pub mod Groups
pub mod Protected
pub mod Marking
-- all groups together: the invariant
pub mod Sim
-- which records words name, forwarding, fromspace and tospace
pub mod Laws
-- which records can be followed
pub mod Following
-- a record and its replica; the original of a record of the other half
pub mod Pairs
pub mod Originals
-- what roots and marked records name is kept alive
pub mod Alive
-- levels by phase
pub mod Spans
-- groups in the phases in which they ask little
pub mod Idle
-- scanned marks cleared
pub mod Unmarked
-- the control record stays in range
pub mod Range
-- facts on words that carry over to another memory; what is counted of a record
pub mod Carried
pub mod Counted
-- the invariant looks at the places of records alone
pub mod Places
-- the record at the walk, and the walk moved
pub mod Walked
-- shares and charges, which it doesn't read; room for what the shares leave
pub mod Accounts
pub mod Room
-- the bound on marking, and what steps add to it
pub mod Spent
pub mod Spending
