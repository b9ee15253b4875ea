-- The session calls on the record in a register, by what a plan that passed says. It rests on tests and shading.

-- the tests with words pending
pub mod Pending
-- a row written into a longer one
pub mod Rows
-- load, read, the birth number; and load and read as the field of the record that a reference names
pub mod Fields
pub mod ByReference
-- store and put
pub mod Store
-- write
pub mod Write
-- the stretch
pub mod Stretch
-- several links
pub mod Links
