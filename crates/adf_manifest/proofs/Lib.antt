-- the parts of a line
pub mod DigitLaws
pub mod TokenLaws
pub mod LineLaws
pub mod Forms
-- the lines of a manifest, one after another
pub mod ManifestLaws
pub mod Growth
pub mod StateLaws
pub mod LastLines
-- the laws: one tree, one verdict, one fault
pub mod TreesOfLines
pub mod Verdicts
pub mod Faults
