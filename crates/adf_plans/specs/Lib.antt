-- All of it is the promise.
pub mod PlanTexts
pub mod HostFiles
