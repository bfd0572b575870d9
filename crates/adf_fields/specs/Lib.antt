-- All of it is the promise: words, checksums, hashes, and the texts of dates.
pub use Rattle.adf_base.specs.Words
pub use Rattle.adf_base.specs.Hash
pub mod Dates
