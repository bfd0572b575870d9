pub mod Cuts
pub mod TextLines
pub mod OnePlan
pub mod PlainTexts
