-- All of it is the promise: which blocks a map says were not read.
pub mod Maps
