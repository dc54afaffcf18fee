pub mod MadeLemmas
pub mod MakeLemmas
pub mod SaidLemmas
pub mod WantedLemmas
pub mod Words
