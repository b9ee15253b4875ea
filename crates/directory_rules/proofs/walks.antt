-- What a walk over a chain comes to.

-- the slot that it has come to
pub mod Slots
-- what it leaves
pub mod Walked
-- the record at hand, read and passed
pub mod Reading
-- the walks that look for a record
pub mod Seek
-- the walks of a list: how many members, and their numbers
pub mod Count
