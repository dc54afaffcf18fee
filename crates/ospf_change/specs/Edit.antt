pub mod Change
pub mod Large
pub mod Words
pub mod Answer
pub mod Wanted
pub mod Lines
pub mod ReadBack
