-- maps from names to numbers
pub mod ChildMaps
-- drafts, and the trees they give
pub mod DraftInvariant
pub mod DraftLookup
pub mod DraftRooms
pub mod DraftDirectories
pub mod StableOrder
pub mod NumberedAdditions
pub mod TakenEntries
pub mod NodeGroups
-- the next entry of a tree
pub mod NextEntries
