-- The promise: which blocks are blank, and what is read of an image of which blocks were not read.
pub mod Blank
pub mod Mapped
pub mod Dropped
pub mod Runs
