-- bytes and text
pub mod KnownBytes
pub mod PendingText
-- endings
pub mod Endings
pub mod WorkFaults
pub mod CommandRuns
