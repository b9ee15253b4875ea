-- How a call of the code ends.
pub mod Answers
-- What the code hands back, as what an act or a directory call leaves.
pub mod View
-- Parts of the directory's acts that are functions of their own.
pub mod Parts
-- Words taken.
pub mod Taking
-- What a function does that is handed to a call.
pub mod Changes
-- Runs of the code with directory calls, and the claim about them.
pub mod CodeRuns
-- What is claimed of such runs beside their answers.
pub mod CodeClaims
