-- Acts on a store, and the code that performs them.

-- one act after another
pub mod Sequence
-- what stands at a place of a chain
pub mod Looking
-- walks
pub mod Walking
-- going through the groups
pub mod Groups
-- counting the records of a chain
pub mod Counting
-- taking their words
pub mod Taking
-- register 0 alone
pub mod Aside
-- a count that ends is never followed by a refusal
pub mod Again
-- listing
pub mod Listing
-- a call's end: the registers cleared
pub mod Ending
