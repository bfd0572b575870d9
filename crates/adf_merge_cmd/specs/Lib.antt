-- All of it is the promise: the command line, what is said of a merge, and how a run ends.
pub mod CommandLine
pub mod Sizes
pub mod Answers
