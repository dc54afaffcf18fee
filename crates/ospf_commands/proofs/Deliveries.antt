pub mod BatchFacts
pub mod LossFacts
pub mod ProgressFacts
pub mod KeepFacts
pub mod Manys
