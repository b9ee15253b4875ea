-- The collector's phases that mark, copy and make no record: moving on from each, the flips, and Reclaim. It rests on invariant,
-- frames, relation and sessions.

-- the tests on sessions
pub mod Sessions
-- moving on to the next phase; the last move of each phase before StackFlip, and of StackFlip
pub mod MoveOn
pub mod Moves
pub mod Flip
-- 0 Rest, and the phases that only wait for the level
pub mod Handshakes
-- 10 RootFlip
pub mod RootFlip
-- 11 StackFlip
pub mod StackFlip
-- 12 Reclaim: a replica word cleared, the other half emptied, the whole unit
pub mod Clear
pub mod Reclaimed
pub mod Reclaim
-- on any store: charges when Reclaim ends
pub mod Uncharged
