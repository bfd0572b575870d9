-- what the calls promise of images of volumes with directory caches, and of any type: verdicts, tables, files, roles
pub mod CachedCalls
pub mod CachedTables
pub mod CachedFiles
pub mod CachedOwners
