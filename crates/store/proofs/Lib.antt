-- Laws that the proofs of the functions share, in folders by topic, lowest first. The proof of a function stands in the folder of its
-- type or module, under its name.

-- the view of the code's values loses nothing
pub mod view
-- the tests of calls, by what the code's tests answer
pub mod tests
-- the sessions searched
pub mod session
-- shading, and the phases that mark
pub mod shading
-- load, store, put, write, stretch and same
pub mod calls
-- allocate: its tests, and the new record in one half or in both
pub mod allocation
-- the collector's numbers, the other phases, and the step
pub mod collector
-- runs of the code, and the claims about them
pub mod runs
