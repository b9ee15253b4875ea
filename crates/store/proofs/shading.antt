-- Shading, and the phases that mark. It rests on tests and session.

-- one record shaded; the bounds that the functions over lent halves ask for
pub mod Shade
-- the white records among references, each once
pub mod Whites
-- a session's registers: the first pass, which tests and counts
pub mod Counting
-- a record's colour word is no other record's
pub mod Colours
-- the second pass, which shades
pub mod ShadeAll
-- of 4 HeapMark: what the rule says of a scan, by what the passes found, and which entries of the list can be shaded
pub mod Phases
