-- The claims of specs/Claims.antt, by what they rest on.

-- the values: WholeValues
pub mod Values
-- the script's own parse: EveryEntry
pub mod Reading
-- the lines that the script program writes of a load: NoCall15, No15, LineEach, FirstLines
pub mod Lines
-- how long a load is: Bounded
pub mod Bounded
-- the pieces of a load: NothingLost, PiecesJoined, PiecesEnd
pub mod Joining
