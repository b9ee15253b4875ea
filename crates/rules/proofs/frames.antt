-- Changes of words that leave every record where it is, and what each group of the invariant needs of them. It rests on memory and
-- invariant.

-- what such a change is
pub mod Frame
-- those that there are, and the words that they keep
pub mod Change
pub mod Kept
-- over one, each group on values, and each on marking
pub mod Transfer
pub mod Marks
-- all groups at once where only colours, only replica words or only fields change
pub mod Whole
-- the bound on marking over them
pub mod Spent
