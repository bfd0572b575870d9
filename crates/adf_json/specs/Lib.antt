-- All of it is the promise: the lines of objects.
pub mod Objects
