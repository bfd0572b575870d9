-- All of it is the promise: the command line, the names, and the lines of all images.
pub mod CommandLine
pub mod Names
pub mod Lines
