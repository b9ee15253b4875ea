-- The view of the code's values as the rules' values.

-- it loses nothing
pub mod Faithful
