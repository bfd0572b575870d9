pub mod CommandLines
pub mod Numbers
