pub mod ListedDates
pub mod ScriptLines
pub mod Scripts
pub mod EditSteps
pub mod AnswerLaws
-- the disk of an image with directory caches
pub mod CachedSteps
