-- sums with each carry added back
pub mod CarrySums
-- volumes with other boot blocks
pub mod OtherBoots
-- boot blocks that are put back
pub mod Restored
-- images that get other boot blocks
pub mod Taken
-- what writes leave
pub mod Writes
