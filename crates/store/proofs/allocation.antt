-- Allocation: its tests, and the new record in one half or in both. It rests on tests.

-- a record at the frontier of one half, or of both: room for it, and what is written
pub mod Record
-- the tests, and the whole call
pub mod Tests
