-- All of it is the promise: words, checksums, hashes and dates.
pub mod Words
pub mod Hash
pub mod Dates
