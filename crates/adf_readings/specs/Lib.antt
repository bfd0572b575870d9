-- All of it is the promise: which readings count at a block, and what they are merged into.
pub mod Mapped
pub mod Merge
