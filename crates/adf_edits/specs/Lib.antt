-- The promise: what an outline of a tree is, and what an edit makes of it.
pub mod Paths
pub mod Outline
pub mod Edits
pub mod Index
