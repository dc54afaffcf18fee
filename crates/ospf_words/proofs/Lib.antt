pub mod Plain
pub mod WordLemmas
