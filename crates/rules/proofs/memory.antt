-- The memory interface, the lowest layer: what a record is, and what the operations on memory keep. It rests on the definitions
-- alone. Above it nothing opens a half, a word or a put.

-- case analysis as functions; lists of one value, with one element set, with a run of elements set
pub mod Cases
pub mod Lists
pub mod Sets
-- references, shape words and the two halves as numbers
pub mod Encoding
-- lists of words as records that follow one another
pub mod Chain
-- the halves of a changed memory
pub mod Halves
-- records of a memory; whether a reference names one; the reference that the next one gets
pub mod Records
pub mod Decided
pub mod Next
-- the test of following, of any reference
pub mod Followed
-- a walk over the records of a half
pub mod Walk
-- halves whose records stay where they are
pub mod Same
-- what each operation keeps: a word written, a record appended, as an allocation or a shell, a half emptied
pub mod Put
pub mod Append
pub mod Allocation
pub mod Empty
-- sums over the records of a half
pub mod Sum
pub mod Total
-- the records of a half as a list
pub mod Listing
