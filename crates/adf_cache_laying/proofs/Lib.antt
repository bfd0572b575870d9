-- lists with the same items
pub mod Items
-- what holds of the first directories and entries holds of all
pub mod LaidSteps
-- the tree of a volume is that of an image with directory caches
pub mod TreeSteps
