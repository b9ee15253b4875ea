-- The tests of calls, by what the code's tests hand out: that all passed, a refusal, or what a call works with. Calls,
-- allocation and the collector rest on them.

-- 4: the control record test as one row of tests
pub mod Range
-- 1, 2, 3: the tests of making, and what it hands back
pub mod Making
-- a call by what its tests handed out: the session tests; move, clear and get; attach
pub mod Results
-- 4, 5, 6, 8, 11, 12: the opening of a call on the record in a register, and what it gives
pub mod Opening
