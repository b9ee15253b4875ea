-- The sessions of the control record.

-- tests of all of them, the lowest without a mark, and a change to each
pub mod Search
