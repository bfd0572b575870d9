-- what is the same in an image and in a copy of it
pub mod Sameness
-- images of volumes with directory caches whose files are read from the image as it is
pub mod InPlace
