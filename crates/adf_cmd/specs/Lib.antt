-- The promise: what the command answers.
pub mod Answers
pub mod BuildLines
pub mod CheckAnswers
pub mod Listing
pub mod Refusals
-- The words of the command, as its work keeps them.
pub mod VolumeListing
pub mod Work
