pub mod Parts
pub mod Works
pub mod Repeats
pub mod Elections
