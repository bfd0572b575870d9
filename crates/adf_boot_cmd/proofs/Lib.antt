-- answers to orders
pub mod Replies
-- endings of runs
pub mod Endings
pub mod Commands
-- endings of changes of files
pub mod Changes
-- the trees of images that are written
pub mod Trees
