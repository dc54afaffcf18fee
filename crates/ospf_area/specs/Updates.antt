pub mod Meets
pub mod Acks
pub mod Aging
pub mod Removal
pub mod Updates
pub mod Laws
pub mod AckLaws
