-- numbers that are read digit by digit
pub mod DigitLaws
-- lists that are read one by one
pub mod Fronts
-- rows that are read one by one
pub mod RowLaws
-- holes that are found one by one
pub mod HoleLaws
