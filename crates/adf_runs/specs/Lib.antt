-- All of it is the promise: what a command is, what devices tell, and how a run ends.
pub mod Commands
pub mod Devices
pub mod Streams
pub mod Outcomes
pub mod WorkFaults
