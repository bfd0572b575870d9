-- The promise: the command line, what the command answers, and what becomes of files.
pub mod CommandLine
pub mod Answers
pub mod Changing
-- The work of the command, as the code has it.
pub mod Work
