-- The promise: what a plan of found volumes is.
pub mod FoundPlans
