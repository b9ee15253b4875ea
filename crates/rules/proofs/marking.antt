-- Marking: shading, and what RootMark and HeapMark do with it. It rests on invariant, frames, relation, sessions and phases.

-- a record coloured grey or black, and the groups that read colours
pub mod Recolour
pub mod Recoloured
-- a white record shaded: the list, the whole invariant, the rule
pub mod ShadeList
pub mod Shade
pub mod Shading
-- the walk of RootMark and HeapMark
pub mod WalkOn
-- a listed record coloured black
pub mod BlackList
pub mod Blacken
-- the white records among several references, shaded one after another
pub mod Whites
pub mod ShadeAll
-- 3 RootMark
pub mod RootMark
-- 4 HeapMark: the oldest record, a session, the whole unit
pub mod ScanRecord
pub mod ScanSession
pub mod HeapMark
