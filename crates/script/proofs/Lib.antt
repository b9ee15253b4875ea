-- Laws on the entries of a script, the digits of its lines, the turns that do the entries, and the input and output buffers.

-- four bytes as a number
pub mod Bytes
-- the kinds of entries
pub mod Sizes
-- where an entry ends
pub mod Bodies
-- decimal digits: how many a number has, and how they are written
pub mod Digits
-- which bytes decide an entry, and where the next one begins
pub mod Places
-- that the turns come to a stop
pub mod Stopping
-- what one turn leaves, and how far the turns have come
pub mod Turning
-- that the turns write the lines of the script
pub mod Writing
-- turns over a part of the input are turns over the whole of it
pub mod Buffer
-- the output of turn after turn: the text of the script's lines
pub mod Output
-- read, write and same leave the control record as it came
pub mod Keeping
-- the input buffer's bytes still to be done, moved to its front
pub mod Moving
-- what a writer has got
pub mod Growing
