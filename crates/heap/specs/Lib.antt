-- The code's values as the rules' values.
pub mod View
pub mod Pending
pub mod Halves
