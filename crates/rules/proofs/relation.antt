-- What is shown of every session call and of every step: the store and the collector-free store go on alike; and of every rule by itself,
-- how it ends. It rests on memory and invariant.

-- the tracked place of each reference after a change
pub mod Tracks
-- two rules end alike, test by test; the tests on the session and on the record in a register
pub mod Alike
pub mod Tests
-- a step passes and keeps the invariant, and the bound on marking
pub mod Stepped
-- allocations, other session calls, and the rest
pub mod Kinds
-- replies that are refusals
pub mod Replies
-- how a row of tests ends; what stays over every call; the table of the collector's rules; how every rule and every call ends
pub mod Rows
pub mod Stays
pub mod Units
pub mod Rules
