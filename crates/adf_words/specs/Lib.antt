-- All of it is the promise: which command lines are accepted, and what they ask for.
pub mod Arguments
pub mod CommandLine
pub mod FileArguments
