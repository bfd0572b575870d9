pub mod LongInputs
pub mod VerdictLaws
