pub mod Ranges
-- the lines of `list`
pub mod VolumeTexts
