-- the bits of blocks in a bitmap
pub mod Bits
-- images of volumes with directory caches, as ones without
pub mod Uncached
-- verdicts on the bytes without caches
pub mod Verdict
-- images of volumes with directory caches, what fits them and their first faults
pub mod Cached
