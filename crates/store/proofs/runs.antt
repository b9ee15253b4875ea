-- Runs of the code: that they are runs of the rules, and so the claims about runs.

-- a run of the code is a run of the rules
pub mod Runs
-- the claims of the code
pub mod Claims
-- the methods' contracts are the cases of a run
pub mod Contracts
-- a run that the checker computes
pub mod Example
-- claim 10
pub mod Shares
-- claim 1 of the code
pub mod Refusals
