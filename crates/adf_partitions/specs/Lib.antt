-- All of it is the promise.
pub mod Faults
pub mod FaultTexts
pub mod Summed
pub mod Tables
pub mod Places
pub mod Partitions
pub mod Disks
pub mod Searches
pub mod Volumes
pub mod FileSystems
pub mod Plans
