pub mod Growth
pub mod Shrinking
pub mod Kept
pub mod Left
