pub mod Batches
pub mod Losses
pub mod Many
pub mod Progress
