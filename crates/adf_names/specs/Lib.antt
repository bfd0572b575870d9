-- The promise: names, labels, comments, paths, kinds, and metadata.
pub mod Texts
pub mod Kinds
pub mod VolumeTypes
pub mod Meta
pub mod Escapes
pub mod PathTexts
pub mod PathFaults
pub mod Digits
pub mod Growth
pub mod Written
