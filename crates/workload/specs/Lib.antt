-- The test load: the script that a seed and a count give.
pub mod Load
-- Entries and their arguments as they are put into a buffer.
pub mod Entries
-- The load in pieces: what is still to come of it, and what of that goes into a buffer.
pub mod Pieces
-- The claims.
pub mod Claims
