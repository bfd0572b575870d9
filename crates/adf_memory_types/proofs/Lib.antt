-- what is told of an image that is kept as one without caches, and its tables
pub mod KeptImages
pub mod KeptTables
-- what is read of the image as it is
pub mod ReadInPlace
