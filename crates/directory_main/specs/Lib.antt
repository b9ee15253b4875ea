-- The entries of the directory's own kinds, and the requests that they make.
pub mod Entries
-- The input buffer: which of its bytes hold entries that are still to be done.
pub mod Window
-- The lines of the output.
pub mod Lines
-- One entry, and what is left after it.
pub mod Turns
