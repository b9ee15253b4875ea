-- The code's values as the rules' values.
pub mod View
-- The session that a phase works on.
pub mod Searching
-- A field of the record that a reference names.
pub mod Fields
-- The plan of several links.
pub mod Links
-- What a collector step leaves.
pub mod Steps
-- The collector's numbers.
pub mod Cursors
-- What a unit of the collector's work leaves, by what the code hands out of it.
pub mod Work
-- Marking: white registers, the list's end, and shading as a step of a walk.
pub mod Marking
-- What making a shell asks for.
pub mod Shells
-- What the functions of allocation ask of their callers.
pub mod Allocation
-- Copying the fields of a record to its replica.
pub mod Copies
-- Runs of the code, and that they are runs of the rules.
pub mod CodeRuns
-- The claims about runs, said of the code.
pub mod CodeClaims
