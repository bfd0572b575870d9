-- one mark more
pub mod OneMark
-- ways from one number to another
pub mod PathSteps
-- marks of entries that are named one after another
pub mod MarkSteps
-- the records of a block, one after another
pub mod RecordSteps
-- chains of cache blocks, as they are gone through
pub mod ChainWays
-- the blocks of caches, as they are listed
pub mod BlockSteps
-- which caches are wrong
pub mod Wrongness
