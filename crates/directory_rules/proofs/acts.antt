-- The directory's calls on any store, its words whatever they are.

-- a call's first store call, refused
pub mod First
-- what a call answers, and the lent words
pub mod Given
-- what a row of tests leaves
pub mod Ends
-- the store calls that write no more than a register
pub mod Registers
-- what a safe point changes
pub mod SafePoint
-- which refusals may come before something is written, and after
pub mod Replies
-- acts that write only after all their tests
pub mod Careful
-- the directory's calls are such
pub mod Tests
-- so what a call refused by its tests leaves
pub mod Kept
-- and how many records a call allocates on a store, of how many fields
pub mod Few
-- the same as claimed, and a call's first store call
pub mod Allocations
