-- Laws on the entries of a load, as drawn and as put into a buffer, and the claims of specs/Claims.antt.

-- values and outputs that the checker computes
pub mod Examples
-- what each kind of entry is shown to have, and how long an entry is
pub mod Sizes
-- inputs that ask for no load
pub mod Asking
-- the arguments of an entry, one after another
pub mod Arguments
-- the arguments of some classes, and of others behind them
pub mod Appending
-- an entry put into a buffer
pub mod Placing
-- entries one after another put into a buffer
pub mod Filling
-- the claims
pub mod claims
