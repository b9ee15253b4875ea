-- Each call of the directory, on the collector-free store: it answers what the table says, and what it leaves carries the table
-- after it.

-- what is shown of a call, and what holds within one
pub mod Kept
-- tests of an act and of the table, one after another
pub mod Alike
-- a call from its safe point to its cleared registers
pub mod Around
-- where the walks of a call end
pub mod Found
-- open
pub mod Opening
-- a record behind the last of a chain
pub mod Append
-- add
pub mod Adding
-- make
pub mod Making
-- the members of a group: one looked for, one less
pub mod Members
-- the group of a call, and the person in it
pub mod Pairing
-- join
pub mod Joining
-- leave
pub mod Leaving
-- list
pub mod Listing
-- a person out of one group
pub mod Gone
-- a person out of all groups
pub mod LeavingAll
-- what names a person, kept and then changed
pub mod Unnamed
-- remove
pub mod Removing
-- every call
pub mod Request
