-- The promise: what a checked volume tells.
pub mod Volumes
pub mod Pieces
-- The states of the checker: what it keeps, its position, what is read up to it, and its steps.
pub mod Store
pub mod Own
pub mod Reading
pub mod Progress
pub mod Claims
pub mod Pages
pub mod Datas
pub mod Lookup
pub mod Rebuild
