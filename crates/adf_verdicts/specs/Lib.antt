-- All of it is the promise: when an image is valid.
pub mod Verdicts
