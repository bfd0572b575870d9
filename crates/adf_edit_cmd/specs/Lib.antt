-- The promise: what a line of a script says, what a script is, and what becomes of an image by it, and of files by words.
pub mod Lines
pub mod Script
pub mod Manifests
pub mod Edited
pub mod Changing
pub mod Answers
