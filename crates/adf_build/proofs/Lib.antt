-- the blocks that are allocated, and their owners
pub mod FreeBlocks
pub mod AllocatedBlocks
pub mod MapExts
pub mod Planned
pub mod Ranges
-- the entries of a tree, their numbers and chains
pub mod ChainLinks
pub mod CountSteps
pub mod Order
-- the bits of pages
pub mod Bits
pub mod WholeWords
-- the content of a built image
pub mod EntryBlocks
pub mod LaidEntries
pub mod LaidFiles
pub mod LaidWrites
pub mod BlockWrites
pub mod Parts
pub mod WholeBlocks
pub mod WriteSteps
pub mod WrittenBlocks
-- the laws
pub mod LaidFits
pub mod LaidOrder
pub mod WholeVolume
