-- Laws on the length bytes of the kinds, the input buffer, the text of a line, and what one entry leaves.

-- the length byte of each kind
pub mod Sizes
-- the text of a line as it is written
pub mod Text
-- what one entry leaves
pub mod Turning
