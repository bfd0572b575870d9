-- what is the same in both
pub mod SameParts
-- one verdict on an image that is read in place
pub mod OneInPlace
-- what is told of an image that is kept as one without caches
pub mod KeptImages
-- an image has a verdict
pub mod SomeInPlace
