-- The promise: the buffers and tables of a caller in memory, and what the calls put there.
pub mod Areas
pub mod TableAdditions
pub mod Building
pub mod DiskTables
pub mod OwnerNumbers
pub mod Rooms
pub mod Tables
pub mod Verdicts
pub mod Words
pub mod Boot
pub mod Rescuing
pub mod CheckCalls
pub mod SurveyCalls
pub mod TextCalls
pub mod VolumeCalls
-- The states of what looks up a name in a table.
pub mod TableNames
