pub mod FileRuns
