pub mod Edit
pub mod Diff
