-- The promise: the command line, and what the command answers.
pub mod CommandLine
pub mod Replies
pub mod Surveys
pub mod Checks
pub mod Builds
pub mod Proposals
pub mod Answers
-- The words of the command, as its work keeps them, and what is known of a disk of which one volume is held.
pub mod Work
pub mod Jobs
pub mod HeldChecks
-- Plans whose lines name host files.
pub mod HostPlans
-- New disks that are files of their own.
pub mod NewDisks
