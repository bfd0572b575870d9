-- The promise: boot blocks, what is written of them and why it is not, their CRC, and what a volume keeps.
pub mod BootBlocks
pub mod Crc
pub mod Refusals
pub mod Writing
