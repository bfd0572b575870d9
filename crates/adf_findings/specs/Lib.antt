-- The promise: what a survey is, which entries are sound, and what a result tells.
pub mod Demands
pub mod Survey
pub mod Members
pub mod Sound
pub mod Parts
pub mod Files
pub mod SurveyResult
pub mod Concerned
pub mod Remains
pub mod Lookup
pub mod Opening
pub mod SoundMarks
pub mod OwnKind
pub mod Verdict
pub mod Types
-- The states of the surveyor.
pub mod Start
pub mod Forms
pub mod Found
pub mod WalkOwners
pub mod Bits
pub mod Courses
pub mod Marks
