pub mod Checked
pub mod Area
pub mod Json
pub mod Lines
