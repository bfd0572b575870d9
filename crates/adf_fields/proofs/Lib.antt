-- dates and their texts
pub mod Digits
pub mod CivilDates
pub mod DateTexts
