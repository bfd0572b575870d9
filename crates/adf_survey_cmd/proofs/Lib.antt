-- what holds of what is answered
pub mod Clean
pub mod Rescued
pub mod Volumes
-- the word that names a map
pub mod MapWords
-- runs whose map is not had, is none, or is read
pub mod MapEnds
