-- Laws about the halves and the records in them.

-- for callers: which half, what following found, its fields, answers taken apart, what there is to shade, what a plan writes, room for
-- a record
pub mod Placing
pub mod Soundness
pub mod Fields
pub mod Laid
pub mod Lent
pub mod Answers
pub mod Passed
pub mod ToShade
pub mod Plans
pub mod Shaded
pub mod Written
-- the arms of this crate's functions
pub mod Levels
pub mod Replicas
pub mod Followings
