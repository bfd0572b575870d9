-- lists
pub mod Positions
-- names and their bytes
pub mod EqualNames
pub mod RaisedNames
pub mod Spellings
pub mod PathParts
pub mod SomeSpellings
pub mod SomePaths
pub mod PathSteps
