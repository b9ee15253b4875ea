-- Laws of the directory's code.

-- acts performed one after another, and what the store's code answers them
pub mod acts
-- runs of the code with directory calls
pub mod runs
