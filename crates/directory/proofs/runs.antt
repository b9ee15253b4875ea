-- Runs of the code with directory calls.

-- they are runs of the rules, and their answers the table's
pub mod Runs
-- the contract of each function is its case of a run
pub mod Contracts
-- what is claimed of them beside their answers
pub mod Claims
