pub mod Checks
pub mod TableLemmas
pub mod Simulations
