-- The promise: trees, sets of names, and what adding to them and finding in them means.
pub mod Tree
pub mod Bounds
pub mod Faults
pub mod Chain
pub mod NameKeys
pub mod NameSet
pub mod Paths
pub mod Additions
pub mod Laws
-- The states of sets of names, and of what adds to a tree.
pub mod NameBuckets
pub mod LastChain
