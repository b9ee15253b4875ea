-- Sessions and globals: one of them changed, and the calls that change nothing else. It rests on invariant and relation.

-- what a register, a global or a session may hold
pub mod Fits
-- one global, one session or one register set
pub mod Global
pub mod Session
-- move, clear, get
pub mod Registers
-- attach, detach, and the safe point
pub mod Attaching
-- what an attach that isn't refused leaves of its session
pub mod Given
-- the fields of a record in a register; load, read, and the stretch
pub mod Values
pub mod Reading
-- the call same: two words name one record exactly where their places are equal
pub mod Same
