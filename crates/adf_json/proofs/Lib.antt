pub mod JoinSteps
