-- The code's commands as the rules' calls.
pub mod Commands
-- The lines of the output.
pub mod Lines
-- The entries one after another, and what is left after them.
pub mod Turns
-- The input buffer: which of its bytes hold entries that are still to be done.
pub mod Window
