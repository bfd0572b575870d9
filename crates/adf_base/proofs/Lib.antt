-- words and blocks
pub mod WordLaws
-- results
pub mod Results
-- lists of bytes
pub mod ByteLists
