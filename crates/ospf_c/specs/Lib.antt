pub mod Answered
pub mod Words
pub mod Tables
pub mod Changes
pub mod Files
pub mod Simulated
pub mod Failures
