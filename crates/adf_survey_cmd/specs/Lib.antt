-- The promise: the command line, what rescues write, and what the command answers.
pub mod CommandLine
-- what is asked of an input, and what is answered
pub mod Judged
pub mod Answer
pub mod Rescue
-- The words of the command, as its loop keeps them.
pub mod Work
pub mod Answers
-- the word that names a map, and how a run with it ends
pub mod MapWords
pub mod MapRuns
