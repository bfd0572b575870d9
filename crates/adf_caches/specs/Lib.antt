-- entries and the blocks of their headers
pub mod Entries
-- records of directory caches
pub mod Records
-- numbers that lead from one to the next
pub mod Paths
-- marks of entries that are named one after another
pub mod Marking
-- directory caches, and which are right
pub mod Caches
-- the blocks of directory caches
pub mod Blocks
-- what marks tell of chains
pub mod Judging
