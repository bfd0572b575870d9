-- the bits of blocks, as they are read and set
pub mod BitSteps
-- the image as one without caches is as long as the image
pub mod SameLength
-- the first fault where parts have none
pub mod FaultSteps
-- one verdict on an image
pub mod OneVerdict
-- what the survey of an image gives
pub mod SurveySteps
