-- The school directory as definitions, and what is claimed of it.

-- the plain table of people, groups and pairs: what a school sees
pub mod Table
-- store calls of session 15, each chosen by the answers to those before it
pub mod Acts
-- the directory's calls, as such acts
pub mod Directory
-- runs with directory calls, beside the table
pub mod Runs
-- the numbers and orders of all of it
pub mod Limits
-- what is claimed of all of it
pub mod Claims
-- the store's claims, of runs with directory calls
pub mod StoreClaims
-- what the directory holds, and what a removal gives back
pub mod Holding
