-- the judgement of a part
pub mod Decidability
-- the first finding, and surveys without one
pub mod FirstFindings
pub mod TypesRead
pub mod PlainFindings
-- the start of an image
pub mod Starts
-- an image has exactly one survey
pub mod OneSurvey
pub mod SomeSurvey
-- every image is that of a volume, or has a first fault
pub mod FitsOrFault
-- the blocks of files
mod FileBlocks
pub mod SoundFiles
-- look-up of paths
pub mod Lookups
pub mod SomeLookups
mod EntryPaths
-- the blocks of sound entries
pub mod SoundEntries
pub mod SoundChains
-- the findings that leave a file its blocks, and the others
pub mod GraveFindings
pub mod JudgementTests
pub mod CleanParts
pub mod Names
-- the owners of blocks by the places that are given
mod GrownPlaces
-- the form of a header by the letters of a volume
pub mod WalkOwners
pub mod RoleBlocks
pub mod Taking
pub mod Known
pub mod Outcomes
pub mod CourseSteps
pub mod Judgements
-- the positions of a course, in turn
pub mod CoursePlaces
pub mod DataTaking
pub mod MapPlaces
pub mod Begun
pub mod BitSteps
pub mod BitsStated
-- what ends a walk at its first finding
pub mod FoundPages
pub mod SoundMarks
-- each survey has marks
pub mod SomeMarks
-- the positions of headers, and the entries that findings concern
pub mod HeadPlaces
pub mod Concerning
-- the entries that hold the blocks of findings
pub mod BlockOwners
pub mod Keeping
-- the blocks that more than one part asks for
pub mod Contested
-- what is left of files
pub mod Gaps
pub mod DataFound
pub mod OwnedWalks
pub mod LeftOfSound
-- images to survey, and the marks that are kept
pub mod Openings
-- the directories of entries
pub mod Directories
pub mod Doubts
pub mod Members
-- the entries of images without findings
pub mod AllSound
-- look-up in surveys of volumes
pub mod TreeLookups
-- what the data blocks say of the kind of their volume
pub mod OwnKinds
