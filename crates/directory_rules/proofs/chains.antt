-- Chains of records in the collector-free store, and how they carry the table.

-- chains
pub mod Chain
-- what a chain says of its places; chains after a change
pub mod Laws
-- the table as chains
pub mod Core
-- labels keep the chains apart
pub mod Labels
-- the directory's records are as they must be, and the others hold none of them, after a change
pub mod SoundStore
-- what the chains say of groups, people and links
pub mod Entries
-- the same chains in another store
pub mod Frame
-- a change of registers keeps them
pub mod Registers
-- a new record, in no chain yet
pub mod New
-- a write to a slot of a chain
pub mod Written
-- a person, a group, a link more
pub mod Growing
-- a link or a person less
pub mod Cutting
-- all records of the chains together
pub mod Holding
