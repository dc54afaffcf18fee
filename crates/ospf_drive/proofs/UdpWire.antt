pub mod Planned
pub mod Opened
