-- the memory of the caller: rooms and words
pub mod Filled
pub mod Rooms
pub mod WordParts
pub mod MemoryWords
-- what is told of a volume, and of a fault
pub mod CheckedVolumes
pub mod ToldCauses
-- the tables of a volume
pub mod TableLaws
pub mod TableBytes
pub mod Readings
pub mod TableNames
-- what is read of a hard disk
pub mod DiskReadings
-- volumes that are built
pub mod TableDrafts
-- rescues
pub mod PreparedRescues
