-- All of it is the promise: what files tell, what it is to replace one, how a run over them ends, and what a program tells of itself.
pub mod About
pub mod Files
pub mod FileChanges
pub mod FileRuns
