-- The lists of the plain table.

-- numbers in a list: who is among them, one more, one left out; places and their numbers
pub mod Numbers
-- pairs: who is paired, pairs left out
pub mod Pairs
-- the members of a group with a pair more or less
pub mod Members
-- sound tables, and that they stay sound
pub mod Sound
