-- lines
pub mod Lines
-- the rows of a volume
pub mod EntryNames
pub mod EntryLines
-- answers
pub mod AnswerLaws
pub mod LongInputs
pub mod OneAnswer
