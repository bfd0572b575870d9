-- the store of a check
pub mod FileBlocks
pub mod HeaderBodies
pub mod StoreSteps
-- the steps from state to state
pub mod ClaimSteps
pub mod RootRead
pub mod PageSteps
pub mod NodeSteps
pub mod ChainSteps
pub mod ExtSteps
pub mod DataSteps
pub mod BitmapSteps
-- numbers that fit their types
pub mod NumberBounds
-- the facts about a checked volume
pub mod KeptPlaces
pub mod StoreStands
pub mod RowLaws
pub mod VolumeCounts
pub mod ChainLookups
pub mod FilePieces
pub mod TreeEntries
