pub mod Progress
pub mod NameLists
