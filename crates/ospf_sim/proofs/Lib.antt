pub mod Lines
pub mod Files
pub mod Worlds
pub mod Cuts
pub mod Pieces
pub mod Sessions
pub mod Consoles
pub mod EventFacts
mod IssueFacts
