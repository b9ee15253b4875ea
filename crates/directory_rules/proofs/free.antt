-- The collector-free store as session 15 meets it.

-- the registers of the session
pub mod Session
-- where a reference stands: the directory's global, or a field
pub mod Slots
-- laws of the registers
pub mod Registers
-- what slots hold after a write, and with a record more
pub mod Held
-- a slot written and registers changed, in either order
pub mod Commute
-- a new record in a register
pub mod Grown
-- acts on it
pub mod Perform
-- an act that makes a call
pub mod Must
-- what each store call does there
pub mod Steps
-- acts one after another, and the registers cleared at the end
pub mod Sequence
