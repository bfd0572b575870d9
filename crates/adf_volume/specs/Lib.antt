-- The promise: the model of a volume.
pub mod Lists
pub mod Image
pub mod Demands
pub mod Layout
pub mod Fits
pub mod Walk
pub mod Fault
pub mod Rows
pub mod LayoutRoles
pub mod Parts
pub mod Made
pub mod Counts
pub mod Types
pub mod Samples
-- what a walk keeps of the blocks that it takes
pub mod KeptOwner
pub mod OwnerClass
pub mod OwnerTable
pub mod Owners
pub mod Places
-- The states of what opens an image and reads its files, and the positions of what goes along a walk.
-- A promise names `IsBegun` of Start and `AreInside` of Pieces.
pub mod Start
pub mod Pieces
pub mod Positions
