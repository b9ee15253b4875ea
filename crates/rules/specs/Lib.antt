-- Document 01 as definitions, a file for each heading, in its order, with what document 02 changes of it.

-- Memory and references
pub mod Memory
pub mod Control
-- Session calls
pub mod Calls
-- Phases and levels
pub mod Cycle
pub mod Phases
pub mod Barriers
pub mod Collector
-- Refusal by place
pub mod Answers
pub mod Refusals
-- Runs and the collector-free store
pub mod Runs
pub mod Free
pub mod Tracking
-- The script program
pub mod Script
-- Examples
pub mod Examples
-- The numbers and orders of all of it
pub mod Samples
pub mod Limits
-- What is claimed of all of it, and what crates above may go by
pub mod Claims
