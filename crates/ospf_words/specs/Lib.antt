pub mod Job
pub mod Words
pub mod Arguments
pub mod Commands
pub mod Unasked
