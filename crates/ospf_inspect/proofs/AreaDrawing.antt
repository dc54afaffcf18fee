pub mod Drawn
pub mod Names
pub mod Ones
pub mod WalkFacts
